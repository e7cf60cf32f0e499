use Rattle.std.proofs.Common.{ap, ◌∙◌}
use Rattle.std.specs.FinSet as set
use Rattle.std.proofs.lemmas.Map.Text.{btree_set_updates_text}
use Rattle.aud_sim.proofs.RoomTexts.{texts-remove}
use Rattle.aud_sim.proofs.rooms.HeldRooms.leave.Goals as goal

pub returns : goal.returns
returns c =
    texts-remove c.self.inside.rooms.keys c.remove.new.self.keys c.args.room.now (btree_set_updates_text c.args.room.now c.self.inside.rooms c.remove.new.self _ c.remove.ensures.updates)
    ∙ ap (λ s. set.remove s c.args.room.now) c.self.view_is
