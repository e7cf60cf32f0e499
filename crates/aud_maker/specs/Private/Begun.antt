-- How far the turns go that a log begins.
use Rattle.std.specs.Prelude.{◌≡◌, ◌≤◌, ℕ, true, List, Some, slice_get}
use Rattle.aud_tap.specs.declared.records.NodeRec.{NodeRec}
use Rattle.aud_node.specs.Stream.{Text}
use Rattle.aud_node.specs.TurnRecords.{begins_turn}

-- no record of the log begins a turn of a greater number
abbrev pub BeginsUpTo : List NodeRec → Text → ℕ → Type 0
BeginsUpTo log pid last = (i k : ℕ) (rec : NodeRec) → slice_get log i ≡ Some rec → begins_turn pid k rec ≡ true → k ≤ last
