use Rattle.std.proofs.Common.{ap, ◌∙◌}
use Rattle.std.specs.FinSet as set
use Rattle.aud_rooms.proofs.RoomMaps.{texts-remove}
use Rattle.aud_rooms.proofs.room_set.RoomSet.leave.Goals as goal

pub returns : goal.returns
returns c =
    texts-remove c.self.inside.rooms.keys c.remove.new.self.keys c.args.room.now (c.remove.ensures.updates.0)
    ∙ ap (λ s. set.remove s c.args.room.now) c.self.view_is
