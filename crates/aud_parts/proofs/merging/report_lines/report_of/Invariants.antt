use Rattle.std.proofs.Common.{◌≡◌, take, flat_map}
use Rattle.aud_parts.specs.ReportLines.{ended_line}
use Rattle.aud_parts.proofs.merging.report_lines.report_of.Given as goal

-- the lines so far, each ended
abbrev pub invariant-loop-line : goal.invariant-loop-line
invariant-loop-line l = l.out.items ≡ flat_map ended_line (take l.line-index l.lines)
