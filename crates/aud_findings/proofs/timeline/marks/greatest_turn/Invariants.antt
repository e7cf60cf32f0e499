use Rattle.std.proofs.Common.{◌≡◌, max, drop}
use Rattle.aud_findings.specs.MarkedTurns.{greatest_turn}
use Rattle.aud_findings.proofs.timeline.marks.greatest_turn.Given as goal

-- the greatest so far and of those to come is the greatest of all
abbrev pub invariant-loop-mark : goal.invariant-loop-mark
invariant-loop-mark l = max l.greatest (greatest_turn (drop l.mark-index l.marks)) ≡ greatest_turn l.marks
