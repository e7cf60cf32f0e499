use Rattle.std.proofs.Common.{◌≡◌, ◌+◌, ◌-◌, ◌++◌, ◌∷◌, [], List, ℕ, ap, refl, sym, length, map, slice_get, slice_index, suc, true, false, ◌∙◌, arith, length-append, Some}
use Rattle.std.proofs.lemmas.Option.{slice_get_read}
use Rattle.std.proofs.lemmas.Result.{on_ok_weaker}
use Rattle.aud_base.specs.Lists.{numbers_from}
use Rattle.aud_input.specs.LineRuns.{lines_of_runs}
use Rattle.aud_parts.specs.Private.FoundRecords.{comes_next, found}
use Rattle.aud_parts.specs.ServerLines.{places_left}
use Rattle.aud_parts.proofs.FoundLemmas.{found-left, count-left}
use Rattle.aud_parts.proofs.PushedLines.{push-here, push-later, push-all, here-within}
use Rattle.aud_parts.proofs.part.lines.push_log.Goals as goal
use Rattle.aud_parts.proofs.part.lines.push_log.Goals.{then-comes_next+in_ok-push, else-comes_next}

pub loop-place-preserved : goal.loop-place-preserved
loop-place-preserved c =
    let recs = c.args.recs.now in
    let part = c.args.part.now in
    let line = slice_index c.args.lines.now in
    let place = c.loop-place.place in
    let number = c.loop-place.found in
    let rec = c.index.result.now in
    let old = lines_of_runs c.loop-place.runs in
    let all = lines_of_runs c.args.runs.now ++ map line (map suc (found 0 recs part)) in
    let at : slice_get recs place ≡ Some rec = slice_get_read recs (length recs) place rec refl (omega (arith, c.loop-place-test.true, c.len-place-end.ensures)) c.index.ensures in
    elim c.if-comes_next.branch [
      | then-comes_next+in_ok-push w ↦ (
          let e : comes_next part number rec ≡ true = sym c.comes_next.ensures ∙ w.if-comes_next.true in
          let new = lines_of_runs c.if-comes_next.runs in
          let more : new ≡ old ++ line (place + 1) ∷ [] = ap lines_of_runs w.runs-is ∙ w.in_ok-push.ensures ∙ ap (λ n. old ++ n ∷ []) w.line_at.ensures in
          let one = ap length more ∙ length-append old (line (place + 1) ∷ []) in
          record {
            lines = push-here line recs part place number c.if-comes_next.found rec old new all at e w.found-is c.loop-place.invariant.lines more;
            count = omega (arith, one, c.loop-place.invariant.count, w.found-is);
            within = omega (arith, here-within line part number rec e, w.found-is);
            few = omega (arith, c.loop-place.invariant.few, w.found-is);
          })
      | else-comes_next w ↦ (
          let e : comes_next part number rec ≡ false = sym c.comes_next.ensures ∙ w.if-comes_next.false in
          let new = lines_of_runs c.if-comes_next.runs in
          let same : new ≡ old = ap lines_of_runs w.runs-is in
          let one = ap length same in
          record {
            lines = push-later line recs part place number c.if-comes_next.found rec old new all at e w.found-is c.loop-place.invariant.lines same;
            count = omega (arith, one, c.loop-place.invariant.count, w.found-is);
            within = omega (arith, c.loop-place.invariant.within, w.found-is);
            few = omega (arith, c.loop-place.invariant.few, w.found-is);
          })
    ]

pub returns-clause-lines : goal.returns-clause-lines
returns-clause-lines c = λ pids stream is.
    let recs = c.args.recs.now in
    let part = c.args.part.now in
    let line = slice_index c.args.lines.now in
    let start = lines_of_runs c.args.runs.now in
    let now = lines_of_runs c.loop-place.runs in
    let new = lines_of_runs c.push_next.new.runs in
    let places = places_left pids stream recs in
    let none : c.saturating_sub.result ≡ length part - c.loop-place.found = c.saturating_sub.ensures ∙ ap (λ n. n - c.loop-place.found) c.len.ensures in
    let others : List ℕ → ℕ → ℕ = λ ls. slice_index ls in
    let added = λ (k : ℕ). now ++ map (others []) (map suc (numbers_from 0 k)) in
    on_ok_weaker {P = new ≡ added c.saturating_sub.result} {Q = new ≡ start ++ map line (map suc places)} c.push_next.result
    (λ more. push-all line recs part c.loop-place.place c.loop-place.found start now new places (others []) (omega (arith, c.loop-place-test.false, c.len-place-end.ensures))
    c.loop-place.invariant.lines c.loop-place.invariant.count (found-left pids stream recs part is) (count-left pids stream recs part is) (more ∙ ap added none))
    c.push_next.ensures.lines
