use Rattle.std.proofs.Common.{subst}
use Rattle.std.proofs.lemmas.Result.{IfOk-weaker}
use Rattle.aud_base.proofs.EachLemmas.{one_for_each}
use Rattle.aud_app.specs.Private.Proven.{IsProofBy}
use Rattle.aud_app.proofs.certificates.proofs.Goals as goal

pub returns : goal.returns
returns g c =
    IfOk-weaker c.try_map.result _ _ (λ v h.
    one_for_each (IsProofBy c.args.recording.now) _ (λ made proof call.
    subst (λ m. IsProofBy c.args.recording.now m proof) call.shows call.says.met) _ _ h) c.try_map.ensures
