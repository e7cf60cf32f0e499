use Rattle.std.proofs.Common.{◌≡◌, drop}
use Rattle.aud_causes.specs.Names.{has_unanswered}
use Rattle.aud_causes.proofs.names.has_unnamed.Given as goal

-- what is to come gives it
abbrev pub invariant-loop-number : goal.invariant-loop-number
invariant-loop-number l = has_unanswered l.recording l.place l.number (drop l.number l.stays) ≡ has_unanswered l.recording l.place 0 l.stays
