use Rattle.std.proofs.Common.{◌≡◌, drop}
use Rattle.aud_parts.specs.Cut.{number_after}
use Rattle.aud_parts.proofs.cut.number_in.Given as goal

-- what is left, after the number so far, is the number of all digits
abbrev pub invariant-loop-digit : goal.invariant-loop-digit
invariant-loop-digit l = number_after l.number (drop l.digit-index l.text) ≡ number_after 0 l.text
