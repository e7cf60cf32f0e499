use Rattle.std.proofs.Common.{◌≡◌, ◌+◌, ◌==◌, ◌&&◌, not, suc, length, map, slice_get, sym, ap, ◌∙◌, refl, arith, Some}
use Rattle.std.specs.List.{list_all}
use Rattle.std.proofs.lemmas.Option.{slice_get_read}
use Rattle.aud_node.specs.Lists.{numbers_from}
use Rattle.aud_node.specs.Cursors.{cursor_at, next_cursor}
use Rattle.aud_node.specs.Ordered.{is_in_order}
use Rattle.aud_base.proofs.Truth.{and_true, and_none}
use Rattle.aud_node.proofs.CursorLemmas.{is_in_order_at, cursor_at-more, is_in_order_at-here, cursors-more, all-more, is_ordered-all}
use Rattle.aud_node.proofs.cursors.Cursors.build.Goals as goal
use Rattle.aud_node.proofs.cursors.Cursors.build.Goals.{then-not-advance, else-not-advance}

pub loop-number-preserved : goal.loop-number-preserved
loop-number-preserved c =
    let i = c.loop-number.number in
    let log = c.args.recs.now in
    let stream = c.args.stream.now in
    let rec = c.index.result.now in
    let before = c.loop-number.invariant in
    let here : slice_get log i ≡ Some rec = slice_get_read log (length log) i rec refl (omega arith) c.index.ensures in
    let cursor : c.by-advance.result.cursor ≡ cursor_at stream log (i + 1) =
    c.by-advance.ensures.cursor ∙ ap (next_cursor stream i rec) before.cursor_is ∙ sym (cursor_at-more stream log i rec here) in
    let next : i + 1 ≡ suc i = omega arith in
    let order : c.by-advance.result.in_order ≡ is_in_order_at stream log i =
    c.by-advance.ensures.order ∙ ap (λ p. is_in_order stream i p rec) before.cursor_is ∙ sym (is_in_order_at-here stream log i rec here) in
    let kept : c.if-not-advance.ordered ≡ (c.loop-number.ordered && is_in_order_at stream log i) =
    elim c.if-not-advance.branch [
      | then-not-advance w ↦ grind (arith, w.ordered-is, order, w.if-not-advance.true, and_none c.loop-number.ordered)
      | else-not-advance w ↦ grind (arith, w.ordered-is, order, w.if-not-advance.false, and_true c.loop-number.ordered)
    ] in
    record {
      after_are = c.in_ok-push.ensures.items ∙ cursors-more (λ number. cursor_at stream log (suc number)) i c.by-advance.result.cursor c.loop-number.after.items before.after_are (cursor ∙ ap (cursor_at stream log) next);
      cursor_is = cursor;
      ordered_is = kept ∙ all-more (is_in_order_at stream log) i (not (length log == 0)) c.loop-number.ordered before.ordered_is;
    }

pub returns : goal.returns
returns c =
    let i = c.loop-number.number in
    let log = c.args.recs.now in
    let stream = c.args.stream.now in
    let end : i ≡ length log = omega arith in
    record {
      after_are = c.loop-number.invariant.after_are ∙ ap (λ n. map (λ number. cursor_at stream log (suc number)) (numbers_from 0 n)) end;
      ordered_is = c.loop-number.invariant.ordered_is ∙ ap (λ n. not (length log == 0) && list_all (is_in_order_at stream log) (numbers_from 0 n)) end ∙ sym (is_ordered-all stream log);
    }
