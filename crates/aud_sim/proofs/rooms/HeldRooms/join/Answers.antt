use Rattle.std.proofs.Common.{ap₂, ◌∙◌, string_bytes}
use Rattle.std.specs.FinSet as set
use Rattle.std.proofs.lemmas.Map.Text.{btree_set_updates_text}
use Rattle.aud_sim.proofs.RoomTexts.{texts-insert}
use Rattle.aud_sim.proofs.rooms.HeldRooms.join.Goals as goal

pub returns : goal.returns
returns c =
    texts-insert c.self.inside.rooms.keys c.insert.new.self.keys (string_bytes c.in_ok-own.own) (btree_set_updates_text (string_bytes c.in_ok-own.own) c.self.inside.rooms c.insert.new.self _ c.in_ok-insert.ensures.updates)
    ∙ ap₂ set.insert c.self.view_is c.in_ok-own.ensures.ok
