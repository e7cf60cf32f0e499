use Rattle.std.proofs.Common.{string_bytes, subst}
use Rattle.std.proofs.lemmas.Result.{IfOk-weaker}
use Rattle.aud_base.proofs.EachLemmas.{one_for_each-map}
use Rattle.aud_maker.specs.Makings.{IsMadeOf}
use Rattle.aud_maker.proofs.many.make_all.Goals as goal

pub returns : goal.returns
returns g c =
    IfOk-weaker c.try_map.result _ _ (λ v h.
    one_for_each-map (IsMadeOf c.args.recording.now) string_bytes _ (λ pid made call.
    subst (λ p. IsMadeOf c.args.recording.now (string_bytes p) made) call.shows call.says.met) _ _ h) c.try_map.ensures
