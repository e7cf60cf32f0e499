use Rattle.std.proofs.Common.{subst}
use Rattle.std.proofs.lemmas.Result.{IfOk-weaker}
use Rattle.aud_base.proofs.EachLemmas.{one_for_each}
use Rattle.aud_app.specs.Verified.{IsAnswered}
use Rattle.aud_app.proofs.verify.answers.Goals as goal

pub returns : goal.returns
returns g c =
    IfOk-weaker c.try_map.result _ _ (λ v h.
    one_for_each (IsAnswered c.args.recording.now) _ (λ line answered call.
    subst (λ l. IsAnswered c.args.recording.now l answered) call.shows call.says.met) _ _ h) c.try_map.ensures
