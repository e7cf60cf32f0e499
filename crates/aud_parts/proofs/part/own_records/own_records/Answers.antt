use Rattle.std.proofs.Common.{◌≡◌, ◌++◌, ◌∷◌, [], ◌∙◌, ap, append-nil, arith, cond, filter, sym, take}
use Rattle.std.proofs.lemmas.List.Elements.{filter_more}
use Rattle.aud_tap.specs.declared.records.NodeRec.{NodeRec}
use Rattle.aud_parts.specs.LeftOut.{keeps_record}
use Rattle.aud_parts.specs.Private.OwnRecords.{has}
use Rattle.aud_parts.proofs.part.own_records.own_records.Goals.{in-Some, in-None, then-kept+in_ok-copied_record+in_ok-push, else-kept}
use Rattle.aud_parts.proofs.part.own_records.own_records.Goals as goal

pub loop-number-preserved : goal.loop-number-preserved
loop-number-preserved c =
    let keeps = keeps_record (has c.args.own.now) in
    let recs = c.args.recs.now in
    let n = c.loop-number.number in
    let rec = c.index-rec.result.now in
    let old = c.loop-number.left in
    let tested : c.match-pid.kept ≡ keeps rec =
    elim c.match-pid.branch [
      | in-Some w ↦ grind (arith, w.kept-is, w.contains-kept.ensures, w.in-Some.ensures)
      | in-None w ↦ grind (arith, w.kept-is, w.in-None.ensures)
    ] in
    let is : c.if-kept.left ≡ old ++ cond (keeps rec) (rec ∷ []) [] =
    elim c.if-kept.branch [
      | then-kept+in_ok-copied_record+in_ok-push w ↦ grind (arith, w.left-is, w.in_ok-push.ensures.added, w.in_ok-copied_record.ensures, sym tested ∙ w.if-kept.true)
      | else-kept w ↦ grind (arith, append-nil old, w.left-is, sym tested ∙ w.if-kept.false)
    ] in
    is ∙ ap (λ l. l ++ cond (keeps rec) (rec ∷ []) []) c.loop-number.invariant
    ∙ ap (λ (t : NodeRec). filter keeps (take n recs) ++ cond (keeps t) (t ∷ []) []) c.index-rec.ensures
    ∙ sym (filter_more keeps recs n rec (omega arith))
