use Rattle.std.proofs.Common.{◌≡◌, take, flat_map, string_bytes}
use Rattle.aud_verdict.specs.Report.{line_of}
use Rattle.aud_verdict.specs.declared.verdict.SessionVerdict.{SessionVerdict}
use Rattle.aud_verdict.proofs.report.report_text.Given as goal

-- the lines of the sessions that were gone over
abbrev pub invariant-loop-entry : goal.invariant-loop-entry
invariant-loop-entry l = string_bytes l.out ≡ flat_map (λ (e : SessionVerdict). line_of e.pid e.verdict) (take l.entry-index l.entries)
