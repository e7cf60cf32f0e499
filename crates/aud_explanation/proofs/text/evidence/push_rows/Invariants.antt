use Rattle.std.proofs.Common.{◌≡◌, ◌++◌, take, string_bytes}
use Rattle.aud_explanation.specs.Evidence.{rows_text}
use Rattle.aud_explanation.proofs.text.evidence.push_rows.Given as goal

-- the lines of the rows so far
abbrev pub invariant-loop-row : goal.invariant-loop-row
invariant-loop-row l = string_bytes l.out ≡ string_bytes l.fn.out ++ rows_text l.files l.pid l.verdict l.width (take l.row-index l.rows)
