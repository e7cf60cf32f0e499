use Rattle.std.proofs.Common.{◌≡◌, ◌∙◌, ℕ, List, String, Some, Global, length, map, zip, sym, ap, subst, arith}
use Rattle.std.specs.Prelude.{slice_get, string_bytes}
use Rattle.aud_node.specs.Stream.{Text}
use Rattle.aud_verdict.specs.declared.verdict.Verdict.{Verdict}
use Rattle.aud_verdict.specs.declared.verdict.SessionVerdict.{SessionVerdict}
use Rattle.aud_maker.specs.Sessions.{sessions_of}
use Rattle.aud_verdict.specs.Verdicts.{AreVerdicts, IsVerdictAt}
use Rattle.aud_desk.specs.Named.{session_verdict}
use Rattle.aud_desk.proofs.Reports.{named-each}
use Rattle.aud_desk.proofs.audit.audit_with.Goals as goal

pub returns-in-Ok-named-clause-verdicts : goal.returns-in-Ok-named-clause-verdicts
returns-in-Ok-named-clause-verdicts g c =
    let recording = c.args.recording.now in
    let whole = c.args.whole in
    let pids : List (String Global) = c.in-Ok.pids.items in
    let found : List Verdict = c.in_ok-found.found.items in
    let lent : c.as_slice.result.now ≡ pids = c.as_slice.ensures.value in
    let len : length found ≡ length pids = omega (arith, c.in_ok-found.ensures.len, ap length lent, c.in_ok-found.found.ok.0) in
    let each : (i : ℕ) (verdict : Verdict) → slice_get found i ≡ Some verdict → IsVerdictAt recording whole (map string_bytes pids) i verdict =
    λ i verdict at. subst (λ (ps : List (String Global)). IsVerdictAt recording whole (map string_bytes ps) i verdict) lent (c.in_ok-found.ensures.each i verdict at) in
    let all = named-each recording whole pids found len each in
    let ours = subst (λ (ps : List Text). AreVerdicts recording whole ps (map session_verdict (zip pids found))) c.in-Ok.ensures all in
    subst (λ (vs : List SessionVerdict). AreVerdicts recording whole (sessions_of recording) vs) (sym (ap (λ v. v.items) c.counted.ensures.verdicts ∙ c.in-Ok-named.ensures)) ours
