-- What an audit writes holds in every run.
use Rattle.std.proofs.Common.{◌≡◌, ℕ, Bool, true, List, [], ◌∷◌, All, Option, Result, Ok, Err, sym, subst}
use Rattle.std.proofs.lemmas.List.Elements.{All-nil, All-cons}
use Rattle.aud_reader.specs.declared.fault.ReadFault.{ReadFault}
use Rattle.aud_reader.specs.declared.fault.ReadFault.TheVariants.{Input, Memory}
use Rattle.aud_node.specs.Stream.{Text}
use Rattle.aud_node.specs.Cluster.{Cluster, cluster_of}
use Rattle.aud_maker.specs.Sessions.{sessions_of}
use Rattle.aud_cli.specs.declared.choice.Mode.{Mode}
use Rattle.aud_cli.specs.declared.choice.Mode.TheVariants.{Audit}
use Rattle.aud_input.specs.declared.input.Layout.TheVariants.{Bundle}
use Rattle.aud_input.specs.Input.{InputSeen, input_of}
use Rattle.aud_verdict.specs.declared.output.Status.{Status}
use Rattle.aud_verdict.specs.declared.verdict.Verdict.{Verdict}
use Rattle.aud_verdict.specs.declared.verdict.Verdict.TheVariants.{Yes, No}
use Rattle.aud_verdict.specs.declared.verdict.SessionVerdict.{SessionVerdict}
use Rattle.aud_verdict.specs.Output.{OutputSeen}
use Rattle.aud_verdict.specs.EveryRun.{HoldsInEveryRun}
use Rattle.aud_verdict.specs.Verdict.{IsVerdict}
use Rattle.aud_verdict.specs.Verdicts.{AreVerdicts}
use Rattle.aud_verdict.proofs.Left.{none_left}
use Rattle.aud_app.specs.Headline.{AllHold, HasNoTail, ReportHolds, ReportHoldsOf, WholeReportHolds, WholeReportHoldsOf}
use Rattle.aud_app.specs.Output.{IsOutputOver, IsOutputOf, Writes}

-- the verdicts on sessions hold in every run, each of its own
all_hold : (c : Cluster) (whole : Bool) (pids : List Text) (entries : List SessionVerdict) → AreVerdicts c whole pids entries → AllHold c entries
all_hold c whole [] [] all = All-nil (λ (entry : SessionVerdict). HoldsInEveryRun c entry.pid entry.verdict)
all_hold c whole [] (e ∷ es) all = absurd all
all_hold c whole (p ∷ ps) [] all = absurd all
all_hold c whole (p ∷ ps) (e ∷ es) all =
    All-cons (λ (entry : SessionVerdict). HoldsInEveryRun c entry.pid entry.verdict) e es
    (subst (λ q. HoldsInEveryRun c q e.verdict) (sym all.0.0) all.0.1.2)
    (all_hold c whole ps es all.1)

-- so does an audit's output over what was read
report_holds : (whole : Bool) (read : Result InputSeen ReadFault) (output : OutputSeen) → IsOutputOver Audit whole read output → ReportHolds read output
report_holds whole (Ok input) output is = (is.0, all_hold (cluster_of input.taps) whole (sessions_of (cluster_of input.taps)) is.0 is.1, is.2)
report_holds whole (Err (Input n code)) output is = is
report_holds whole (Err Memory) output is = is

-- and what was written of it
pub audit_holds : (mode : Mode) (whole : Bool) → mode ≡ Audit → (old new left : Option (List ℕ)) (status : Status) → Writes old new (IsOutputOf mode whole left) status → Writes old new (ReportHoldsOf left) status
audit_holds mode whole audit old new left status w =
    let is : IsOutputOf Audit whole left w.0 = subst (λ m. IsOutputOf m whole left w.0) audit w.1 in
    (w.0, (is.0, is.1, report_holds whole (input_of Bundle is.0) w.0 is.2), w.2, w.3)

-- ---- where the whole is asked for

-- a yes has no tail then
no_tail : (c : Cluster) (pid : Text) (verdict : Verdict) → IsVerdict c true pid verdict → HasNoTail verdict
no_tail c pid (Yes got tail turns) is = none_left c pid got tail turns is
no_tail c pid (No fault) is = tt

-- so none of the verdicts on sessions has
no_tails : (c : Cluster) (pids : List Text) (entries : List SessionVerdict) → AreVerdicts c true pids entries → All (λ (entry : SessionVerdict). HasNoTail entry.verdict) entries
no_tails c [] [] all = All-nil (λ (entry : SessionVerdict). HasNoTail entry.verdict)
no_tails c [] (e ∷ es) all = absurd all
no_tails c (p ∷ ps) [] all = absurd all
no_tails c (p ∷ ps) (e ∷ es) all = All-cons (λ (entry : SessionVerdict). HasNoTail entry.verdict) e es (no_tail c p e.verdict all.0.1.0) (no_tails c ps es all.1)

-- nor has an audit's output over what was read
whole_report_holds : (read : Result InputSeen ReadFault) (output : OutputSeen) → IsOutputOver Audit true read output → WholeReportHolds read output
whole_report_holds (Ok input) output is =
    let c = cluster_of input.taps in
    (is.0, (all_hold c true (sessions_of c) is.0 is.1, no_tails c (sessions_of c) is.0 is.1), is.2)
whole_report_holds (Err (Input n code)) output is = is
whole_report_holds (Err Memory) output is = is

-- and what was written of it
pub whole_audit_holds : (mode : Mode) (whole : Bool) → mode ≡ Audit → whole ≡ true → (old new left : Option (List ℕ)) (status : Status)
    → Writes old new (IsOutputOf mode whole left) status → Writes old new (WholeReportHoldsOf left) status
whole_audit_holds mode whole audit asked old new left status w =
    let one : IsOutputOf Audit whole left w.0 = subst (λ m. IsOutputOf m whole left w.0) audit w.1 in
    let is : IsOutputOf Audit true left w.0 = subst (λ b. IsOutputOf Audit b left w.0) asked one in
    (w.0, (is.0, is.1, whole_report_holds (input_of Bundle is.0) w.0 is.2), w.2, w.3)
