use Rattle.std.proofs.Common.{sym, ap, ◌∙◌}
use Rattle.std.specs.FinSet as set
use Rattle.aud_sim.proofs.RoomTexts.{contains-texts}
use Rattle.aud_sim.proofs.rooms.HeldRooms.contains.Goals as goal

pub returns : goal.returns
returns c = c.contains.ensures ∙ sym (contains-texts c.self.inside.rooms.keys c.args.room.now) ∙ ap (λ s. set.contains s c.args.room.now) c.self.view_is
