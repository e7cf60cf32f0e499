use Rattle.std.proofs.Common.{◌≡◌, drop, None}
use Rattle.aud_causes.specs.Refusals.{last_break}
use Rattle.aud_causes.proofs.refusal.last_break.Given as goal

abbrev pub invariant-loop-mark : goal.invariant-loop-mark
invariant-loop-mark l = last_break l.turn l.last (drop l.mark-index l.marks) ≡ last_break 0 None l.marks
