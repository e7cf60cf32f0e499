use Rattle.std.proofs.Common.{◌≡◌, drop, None}
use Rattle.aud_causes.specs.Twice.{second_open}
use Rattle.aud_causes.proofs.twice.opened_twice.Given as goal

-- the records to come give it, after the one so far that opens the session
abbrev pub invariant-loop-mark : goal.invariant-loop-mark
invariant-loop-mark l = second_open l.first (drop l.mark-index l.marks) ≡ second_open None l.marks
