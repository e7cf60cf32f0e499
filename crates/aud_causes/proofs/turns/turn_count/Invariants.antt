use Rattle.std.proofs.Common.{◌≡◌, drop}
use Rattle.aud_causes.specs.Turns.{turn_count}
use Rattle.aud_causes.proofs.turns.turn_count.Given as goal

-- what is to come gives the count
abbrev pub invariant-loop-mark : goal.invariant-loop-mark
invariant-loop-mark l = turn_count l.count (drop l.mark-index l.marks) ≡ turn_count 0 l.marks
