use Rattle.std.proofs.Common.{◌≡◌, ◌+◌, drop}
use Rattle.aud_parts.specs.NamedLines.{files_in}
use Rattle.aud_parts.proofs.NamedLinesLemmas.{with_files}
use Rattle.aud_parts.proofs.named_lines.files_in.Given as goal

-- the files so far, and those of the lines that are left, are those of all lines
abbrev pub invariant-loop-number : goal.invariant-loop-number
invariant-loop-number l = with_files l.files (files_in (l.number + 1) (drop l.number l.lines)) ≡ files_in (l.before + 1) (drop l.before l.lines)
