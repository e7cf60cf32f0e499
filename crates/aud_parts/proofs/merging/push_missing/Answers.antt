use Rattle.std.proofs.Common.{◌≡◌, ◌++◌, Some, None, append-nil, arith, cond, is_some, length, option_to_list, refl}
use Rattle.std.proofs.lemmas.Option.{slice_get_read}
use Rattle.aud_parts.specs.declared.merging.fault.MergeFault.TheVariants.{Missing}
use Rattle.aud_parts.proofs.SlotLemmas.{missing-more}
use Rattle.aud_parts.proofs.merging.push_missing.Goals as goal
use Rattle.aud_parts.proofs.merging.push_missing.Goals.{then-is_none+in_ok-push, else-is_none}

pub loop-part-preserved : goal.loop-part-preserved
loop-part-preserved c =
    let part = c.loop-part.part in
    let slot = c.index-slots-part.result in
    let old = c.loop-part.faults.items in
    let pushed : c.if-is_none.faults.items ≡ old ++ option_to_list (cond (is_some slot) None (Some (Missing part))) =
    elim c.if-is_none.branch [
      | then-is_none+in_ok-push w ↦ grind (arith, w.faults-is, w.in_ok-push.ensures.items, w.if-is_none)
      | else-is_none w ↦ grind (arith, w.faults-is, append-nil old, w.if-is_none)
    ] in
    missing-more c.args.slots.now part old _ c.args.faults.now.items slot
    (slice_get_read c.args.slots.now (length c.args.slots.now) part slot refl c.loop-part-test.true c.index-slots-part.is)
    pushed c.loop-part.invariant
