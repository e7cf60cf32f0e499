use Rattle.std.proofs.Common.{ap, map, string_bytes, subst, ◌∙◌}
use Rattle.std.proofs.Crossing.{crosses}
use denote.Param.Send.{sendable}
use Rattle.std.proofs.lemmas.Result.{IfOk-weaker}
use Rattle.aud_base.specs.OneForEach.{OneForEach}
use Rattle.aud_app.specs.Private.Proven.{IsProofBy}
use Rattle.aud_app.specs.Proofs.{AreProofs}
use Rattle.aud_app.proofs.MadeProofs.{of_their_sessions, of_sessions}
use Rattle.aud_app.proofs.certificates.prove.Goals as goal

pub proofs-requires : goal.proofs-requires
proofs-requires g c =
    let own = of_their_sessions c.args.recording.now _ _ c.in_ok-made.ensures in
    (search (sendable, crosses) depth 40, rw c.deref-2.ensures.value own)

pub returns : goal.returns
returns g c =
    let recording = c.args.recording.now in
    let sessions = ap (map string_bytes) c.deref.ensures.value ∙ c.in_ok-pids.ensures in
    IfOk-weaker c.proofs.result (λ all. OneForEach (IsProofBy recording) c.deref-2.result.now all.items) _ (λ all h.
    let each = subst (λ made. OneForEach (IsProofBy recording) made all.items) c.deref-2.ensures.value h in
    let law = c.verdict_by_certificate.ensures.not_made recording in
    subst (λ pids. AreProofs recording pids all.items) sessions (of_sessions recording law _ _ all.items c.in_ok-made.ensures each)) c.proofs.ensures
