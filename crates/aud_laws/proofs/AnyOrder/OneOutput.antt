-- An input has one output of an audit.
use Rattle.std.proofs.Common.{◌≡◌, Bool, List, [], ◌∷◌, Result, Ok, Err, refl, sym, ap, ◌∙◌}
use Rattle.aud_reader.specs.declared.fault.ReadFault.{ReadFault}
use Rattle.aud_reader.specs.declared.fault.ReadFault.TheVariants.{Input, Memory}
use Rattle.aud_node.specs.Stream.{Text}
use Rattle.aud_node.specs.Cluster.{Cluster, cluster_of}
use Rattle.aud_maker.specs.Sessions.{sessions_of}
use Rattle.aud_input.specs.Input.{InputSeen}
use Rattle.aud_cli.specs.declared.choice.Mode.TheVariants.{Audit}
use Rattle.aud_verdict.specs.declared.verdict.SessionVerdict.{SessionVerdict}
use Rattle.aud_verdict.specs.Output.{OutputSeen}
use Rattle.aud_verdict.specs.Verdicts.{IsSessionVerdict, AreVerdicts}
use Rattle.aud_verdict.proofs.Sessions.{one_verdict}
use Rattle.aud_app.specs.Output.{IsReport, IsOutputOver, report_over}

-- a session has one verdict under its name
same-entry : (c : Cluster) (whole : Bool) (pid : Text) (one other : SessionVerdict) → IsSessionVerdict c whole pid one → IsSessionVerdict c whole pid other → one ≡ other
same-entry c whole pid one other is too =
    let names : one.pid ≡ other.pid = is.0 ∙ sym too.0 in
    let verdicts : one.verdict ≡ other.verdict = one_verdict c whole pid one.verdict other.verdict is.1.0 too.1.0 in
    λ i. record { pid = names i; verdict = verdicts i }

-- sessions have one list of verdicts
same-entries : (c : Cluster) (whole : Bool) (pids : List Text) (ones others : List SessionVerdict) → AreVerdicts c whole pids ones → AreVerdicts c whole pids others → ones ≡ others
same-entries c whole [] [] [] are too = refl
same-entries c whole [] [] (other ∷ others) are too = absurd too
same-entries c whole [] (one ∷ ones) others are too = absurd are
same-entries c whole (pid ∷ pids) [] others are too = absurd are
same-entries c whole (pid ∷ pids) (one ∷ ones) [] are too = absurd too
same-entries c whole (pid ∷ pids) (one ∷ ones) (other ∷ others) are too =
    let heads : one ≡ other = same-entry c whole pid one other are.0 too.0 in
    let tails : ones ≡ others = same-entries c whole pids ones others are.1 too.1 in
    λ i. heads i ∷ tails i

-- so logs have one report
same-report : (c : Cluster) (whole : Bool) (one other : OutputSeen) → IsReport whole c one → IsReport whole c other → one ≡ other
same-report c whole one other is too = is.2 ∙ ap (report_over c) (same-entries c whole (sessions_of c) is.0 too.0 is.1 too.1) ∙ sym too.2

-- and what is read has one output
pub one-output : (whole : Bool) (read : Result InputSeen ReadFault) (one other : OutputSeen) → IsOutputOver Audit whole read one → IsOutputOver Audit whole read other → one ≡ other
one-output whole (Ok input) one other is too = same-report (cluster_of input.taps) whole one other is too
one-output whole (Err (Input n code)) one other is too = is ∙ sym too
one-output whole (Err Memory) one other is too = absurd is
