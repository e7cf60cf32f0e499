use Rattle.std.proofs.Common.{◌≡◌, take}
use Rattle.aud_explanation.specs.Evidence.{tap_width}
use Rattle.aud_explanation.proofs.text.evidence.push_table.Given as goal

-- the width for the rows so far
abbrev pub invariant-loop-row : goal.invariant-loop-row
invariant-loop-row l = l.width ≡ tap_width (take l.row-index l.rows)
