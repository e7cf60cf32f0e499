use Rattle.std.proofs.Common.{◌∙◌, inl, inr, length, arith, refl, ap, sym, slice_get}
use Rattle.std.proofs.lemmas.Option.{slice_get_read}
use Rattle.aud_merge.proofs.NextRecords.{fronts-on}
use Rattle.aud_merge.proofs.fronts.unfinished.Goals as goal
use Rattle.aud_merge.proofs.fronts.unfinished.Goals.{then-index-step_count+in_ok-push, else-index-step_count}

pub loop-log-preserved : goal.loop-log-preserved
loop-log-preserved c =
    fronts-on c.args.logs.now c.args.state.now c.loop-log.log c.tap-item.result c.taken-index.result c.step_count.result c.loop-log.fronts.items c.if-index-step_count.fronts.items
    (ap (λ taps. slice_get taps c.loop-log.log) (sym c.taps-tap-items.ensures)
    ∙ slice_get_read c.taps-tap-items.result.now (length c.taps-tap-items.result.now) c.loop-log.log c.tap-item.result refl (omega arith) c.tap-item.is)
    c.taken-index.ensures c.step_count.ensures c.loop-log.invariant
    (elim c.if-index-step_count.branch [
      | then-index-step_count+in_ok-push w ↦ inl (w.if-index-step_count.true, (let e = w.fronts-is in let p = w.in_ok-push.ensures.items in cc))
      | else-index-step_count w ↦ inr (w.if-index-step_count.false, (let e = w.fronts-is in cc))
    ])
