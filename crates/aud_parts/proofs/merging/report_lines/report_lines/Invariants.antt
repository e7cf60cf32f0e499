use Rattle.std.proofs.Common.{◌≡◌, drop}
use Rattle.aud_parts.specs.ReportLines.{report_lines}
use Rattle.aud_parts.proofs.ReportLemmas.{after_front}
use Rattle.aud_parts.proofs.merging.report_lines.report_lines.Given as goal

-- the lines so far, and those that are left, are all
abbrev pub invariant-loop-text : goal.invariant-loop-text
invariant-loop-text l = after_front l.lines.items (report_lines (drop l.text-index l.texts)) ≡ report_lines l.texts
