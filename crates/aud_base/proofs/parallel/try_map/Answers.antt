use Rattle.std.proofs.Common.{ap, ◌∙◌}
use Rattle.std.proofs.lemmas.Result.{IfOk-at_ok, IfOk-weaker}
use Rattle.aud_base.proofs.Answered.{collected}
use Rattle.aud_base.proofs.parallel.try_map.Goals as goal

pub returns-in-Ok : goal.returns-in-Ok
returns-in-Ok g c =
    let shown = ap (λ it. it.slice.now) c.with_min_len.ensures.base ∙ c.par_iter.ensures in
    IfOk-at_ok _ c.in-Ok.is (IfOk-weaker c.collect-given.result _ _ (λ r h.
    let chain = rw (c.map.ensures.base, c.map.ensures.f) at h.1 in
    collected g.F.Fn c.args.f (λ v. v.items) c.args.items.now chain.0 h.0 r (chain.1 ∙ shown) chain.2 h.2) c.collect-given.ensures)
