-- What the lines of an audit say of every run, in words that know no certificate.
use Rattle.std.specs.Prelude.{◌≡◌, ℕ, List, All, Option, IfSome, Result, Ok, Err}
use Rattle.aud_reader.specs.declared.fault.ReadFault.{ReadFault}
use Rattle.aud_reader.specs.declared.fault.ReadFault.TheVariants.{Input, Memory}
use Rattle.aud_node.specs.Cluster.{Cluster, cluster_of}
use Rattle.aud_input.specs.declared.input.Layout.TheVariants.{Bundle}
use Rattle.aud_input.specs.Input.{InputSeen, input_of}
use Rattle.aud_verdict.specs.declared.verdict.Verdict.{Verdict}
use Rattle.aud_verdict.specs.declared.verdict.Verdict.TheVariants.{Yes, No}
use Rattle.aud_verdict.specs.declared.verdict.SessionVerdict.{SessionVerdict}
use Rattle.aud_reader.specs.Codes.{code_text}
use Rattle.aud_verdict.specs.Output.{OutputSeen, refusal_of}
use Rattle.aud_verdict.specs.EveryRun.{HoldsInEveryRun}
use Rattle.aud_app.specs.Output.{report_over}

-- each of these verdicts holds in every run of the logs: a yes, that the client received what was due to its session, a
-- no for an event that was extra, doubled, swapped or lost, that it did not, and a no for a tail, that so many events
-- that were due at the end were not received
abbrev pub AllHold : Cluster → List SessionVerdict → Type 0
AllHold c entries = All (λ entry. HoldsInEveryRun c entry.pid entry.verdict) entries

-- the output is the report of such verdicts, or names the first refused line of the input
abbrev pub ReportHolds : Result InputSeen ReadFault → OutputSeen → Type 0
ReportHolds (Ok input) output = (entries : List SessionVerdict) × AllHold (cluster_of input.taps) entries × (output ≡ report_over (cluster_of input.taps) entries)
ReportHolds (Err (Input n code)) output = output ≡ refusal_of n (code_text code)
ReportHolds (Err Memory) output = ⊥

-- so for the bytes that a reader had left, where the reader tells them
abbrev pub ReportHoldsOf : Option (List ℕ) → OutputSeen → Type 0
ReportHoldsOf left output = (bytes : List ℕ) × IfSome left (λ told. bytes ≡ told) × ReportHolds (input_of Bundle bytes) output

-- ---- where the whole is asked for

-- a yes has no tail
abbrev pub HasNoTail : Verdict → Type 0
HasNoTail (Yes got tail turns) = tail ≡ 0
HasNoTail (No fault) = Unit {0}

-- each of these verdicts holds in every run of the logs, and the yes have no tail: what was received is all that was
-- due
abbrev pub AllHoldWhole : Cluster → List SessionVerdict → Type 0
AllHoldWhole c entries = AllHold c entries × All (λ entry. HasNoTail entry.verdict) entries

-- the output is the report of such verdicts, or names the first refused line of the input
abbrev pub WholeReportHolds : Result InputSeen ReadFault → OutputSeen → Type 0
WholeReportHolds (Ok input) output = (entries : List SessionVerdict) × AllHoldWhole (cluster_of input.taps) entries × (output ≡ report_over (cluster_of input.taps) entries)
WholeReportHolds (Err (Input n code)) output = output ≡ refusal_of n (code_text code)
WholeReportHolds (Err Memory) output = ⊥

-- so for the bytes that a reader had left, where the reader tells them
abbrev pub WholeReportHoldsOf : Option (List ℕ) → OutputSeen → Type 0
WholeReportHoldsOf left output = (bytes : List ℕ) × IfSome left (λ told. bytes ≡ told) × WholeReportHolds (input_of Bundle bytes) output
