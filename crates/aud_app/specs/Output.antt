-- What a run writes for its input, and how it ends.
use Rattle.std.specs.Prelude.{◌≡◌, ℕ, Bool, if◌then◌else◌, List, Option, IfSome, Result, Ok, Err}
use Rattle.std.specs.List.{list_any}
use Rattle.std.specs.Io.KnownBytes.{Appends}
use Rattle.aud_reader.specs.declared.fault.ReadFault.{ReadFault}
use Rattle.aud_reader.specs.declared.fault.ReadFault.TheVariants.{Input, Memory}
use Rattle.aud_reader.specs.declared.line.Line.{Line}
use Rattle.aud_tap.specs.declared.taps.Tap.{Tap}
use Rattle.aud_node.specs.Lists.{is_empty}
use Rattle.aud_node.specs.Recoverable.{is_recoverable}
use Rattle.aud_node.specs.Stream.{Text}
use Rattle.aud_node.specs.Cluster.{Cluster, cluster_of}
use Rattle.aud_maker.specs.Sessions.{sessions_of}
use Rattle.aud_cli.specs.declared.choice.Mode.{Mode}
use Rattle.aud_cli.specs.declared.choice.Mode.TheVariants.{Audit, Prove, Verify, Order, Upgrade}
use Rattle.aud_input.specs.declared.input.Layout.{Layout}
use Rattle.aud_input.specs.declared.input.Layout.TheVariants.{Bundle, BundleAndCertificates}
use Rattle.aud_input.specs.Input.{InputSeen, input_of}
use Rattle.aud_verdict.specs.declared.output.Status.{Status}
use Rattle.aud_verdict.specs.declared.output.Status.TheVariants.{AllYes, NoSession, NoneRecoverable}
use Rattle.aud_verdict.specs.declared.verdict.SessionVerdict.{SessionVerdict}
use Rattle.aud_reader.specs.Codes.{code_text}
use Rattle.aud_verdict.specs.Output.{OutputSeen, report_of, proving_of, refusal_of}
use Rattle.aud_app.specs.declared.answer.Answered.{Answered}
use Rattle.aud_app.specs.Lines.{verification_of}
use Rattle.aud_app.specs.Verified.{AreAnswered}
use Rattle.aud_base.specs.Written.{AppendsFront}
use Rattle.aud_verdict.specs.Verdicts.{AreVerdicts}
use Rattle.aud_upgrade.specs.Upgraded.{upgraded}
use Rattle.aud_writer.specs.WrittenBundle.{written_bundle}
use Rattle.aud_app.specs.Proofs.{AreProofs}
use Rattle.aud_app.specs.Orders.{IsOrdering}
use Rattle.aud_app.specs.Upgrades.{upgrade_output}

-- how an audit ends that answers yes for each session: it tells where that says nothing, since no session was recorded
-- or no entry of the stream is recoverable
abbrev pub yes_status : Cluster → Status
yes_status c = if is_empty (sessions_of c) then NoSession else (if list_any is_recoverable c.stream then AllYes else NoneRecoverable)

-- how an audit ends whose report ends so
abbrev pub status_over : Cluster → Status → Status
status_over c AllYes = yes_status c
status_over c status = status

-- the report of these verdicts on the sessions of the cluster, and how the audit ends
abbrev pub report_over : Cluster → List SessionVerdict → OutputSeen
report_over c entries = record (report_of entries) { status = status_over c (report_of entries).status }

-- the output of an audit, with or without `--whole`: the report of the verdicts on all sessions, in the order
-- of their first mentions
abbrev pub IsReport : Bool → Cluster → OutputSeen → Type 0
IsReport whole c output = (entries : List SessionVerdict) × AreVerdicts c whole (sessions_of c) entries × (output ≡ report_over c entries)

-- the certificates of all sessions that are answered yes, in the order of their first mentions
abbrev pub IsProving : Cluster → OutputSeen → Type 0
IsProving c output = (proofs : List (Option Text)) × AreProofs c (sessions_of c) proofs × (output ≡ proving_of proofs)

-- the output on these certificates: an answer on each, in order
abbrev pub IsVerification : Cluster → List Line → OutputSeen → Type 0
IsVerification c certificates output = (answers : List Answered) × AreAnswered c certificates answers × (output ≡ verification_of answers)

-- the bundle of these taps in version 2
abbrev pub IsUpgrade : List Tap → OutputSeen → Type 0
IsUpgrade taps output = output ≡ upgrade_output (written_bundle (upgraded taps))

-- the output of a mode over these logs and certificates; whether the whole is asked for is an audit's question alone
abbrev pub IsOutputOn : Mode → Bool → Cluster → List Line → OutputSeen → Type 0
IsOutputOn Audit whole c certificates output = IsReport whole c output
IsOutputOn Prove whole c certificates output = IsProving c output
IsOutputOn Verify whole c certificates output = IsVerification c certificates output
IsOutputOn Order whole c certificates output = IsOrdering c output
IsOutputOn Upgrade whole c certificates output = IsUpgrade c.taps output

-- the output of a mode over what was read
abbrev pub IsOutputOver : Mode → Bool → Result InputSeen ReadFault → OutputSeen → Type 0
IsOutputOver mode whole (Ok input) output = IsOutputOn mode whole (cluster_of input.taps) input.certificates output
IsOutputOver mode whole (Err (Input n code)) output = output ≡ refusal_of n (code_text code)
IsOutputOver mode whole (Err Memory) output = ⊥

-- what the lines of a mode's input are
abbrev pub layout_of : Mode → Layout
layout_of Audit = Bundle
layout_of Prove = Bundle
layout_of Verify = BundleAndCertificates
layout_of Order = Bundle
layout_of Upgrade = Bundle

-- the output of a mode over its input
abbrev pub IsOutput : Mode → Bool → List ℕ → OutputSeen → Type 0
IsOutput mode whole bytes output = IsOutputOver mode whole (input_of (layout_of mode) bytes) output

-- the output of a mode over the bytes that a reader had left, where the reader tells them
abbrev pub IsOutputOf : Mode → Bool → Option (List ℕ) → OutputSeen → Type 0
IsOutputOf mode whole left output = (bytes : List ℕ) × IfSome left (λ told. bytes ≡ told) × IsOutput mode whole bytes output

-- the whole text of such an output was written, and the run ends as the output does
abbrev pub Writes : Option (List ℕ) → Option (List ℕ) → (OutputSeen → Type 0) → Status → Type 0
Writes old new Is status = (output : OutputSeen) × Is output × (output.status ≡ status) × Appends old new output.text

-- a front of the text of such an output was written
abbrev pub WritesFront : Option (List ℕ) → Option (List ℕ) → (OutputSeen → Type 0) → Type 0
WritesFront old new Is = (output : OutputSeen) × Is output × AppendsFront old new output.text
