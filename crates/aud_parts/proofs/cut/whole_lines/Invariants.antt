use Rattle.std.proofs.Common.{◌≡◌, length}
use Rattle.aud_parts.specs.Cut.{whole_lines}
use Rattle.aud_parts.proofs.CutLemmas.{with_lines}
use Rattle.aud_parts.proofs.cut.whole_lines.Given as goal

-- the lines so far, and those of what is left, are the lines of the text
abbrev pub invariant-lines : goal.invariant-lines
invariant-lines l = with_lines l.lines.items (whole_lines l.left) ≡ whole_lines l.text

abbrev pub decreases-lines : goal.decreases-lines
decreases-lines l = length l.left
