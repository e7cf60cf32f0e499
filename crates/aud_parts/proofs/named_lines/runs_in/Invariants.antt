use Rattle.std.proofs.Common.{◌≡◌, ◌++◌, drop}
use Rattle.aud_parts.specs.NamedLines.{runs_in}
use Rattle.aud_parts.proofs.named_lines.runs_in.Given as goal

-- the runs so far, and those of the lines that are left, are those of all lines
abbrev pub invariant-loop-number : goal.invariant-loop-number
invariant-loop-number l = l.runs.items ++ runs_in (drop l.number l.lines) ≡ runs_in (drop 1 l.lines)
