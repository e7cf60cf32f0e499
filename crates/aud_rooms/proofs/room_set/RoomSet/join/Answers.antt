use Rattle.std.proofs.Common.{ap, ◌∙◌}
use Rattle.std.specs.FinSet as set
use Rattle.aud_rooms.proofs.RoomMaps.{texts-insert}
use Rattle.aud_rooms.proofs.room_set.RoomSet.join.Goals as goal

pub returns-clause-joined : goal.returns-clause-joined
returns-clause-joined c =
    texts-insert c.self.inside.rooms.keys c.insert.new.self.keys c.args.room.now (c.in_ok-insert.ensures.updates.0)
    ∙ ap (λ s. set.insert s c.args.room.now) c.self.view_is
