use Rattle.std.proofs.Common.{[], ◌∷◌, ◌++◌, map, All, sym, ap, ◌∙◌, subst, arith, ℕ}
use Rattle.std.proofs.lemmas.List.Elements.{All-push}
use mathlib.Core.List.{map-append}
use Rattle.aud_desk.specs.declared.entry.Entry.{Entry}
use Rattle.aud_desk.specs.Draws.{below, past_all}
use Rattle.aud_desk.specs.Views.{drawn}
use Rattle.aud_desk.proofs.Lists.{past_all-push, below-push}
use Rattle.aud_desk.proofs.at_work.work_on.Goals as goal

pub loop-index-smaller : goal.loop-index-smaller
loop-index-smaller g c =
    let some = rw c.in-Some.is at c.claim-claimed.ensures.some in
    let x = c.in-Some.index in
    let was = drawn c.loop-index.seat in
    omega (arith, some.0, ap past_all some.1, past_all-push was x some.2)

pub loop-index-preserved : goal.loop-index-preserved
loop-index-preserved g c =
    let some = rw c.in-Some.is at c.claim-claimed.ensures.some in
    let x = c.in-Some.index in
    let n = c.args.tickets.now.n in
    let was = drawn c.loop-index.seat in
    let P : Entry → Type 0 = λ e. g.T.Decide.is_verdict c.args.task.now e.index e.verdict in
    let entries = c.loop-index.entries.items in
    let entry = c.in-Ok.entry in
    let f : Entry → ℕ = λ e. e.index in
    let items = c.in-Ok-push.ensures.items in
    let right : P entry = subst (λ i. g.T.Decide.is_verdict c.args.task.now i entry.verdict) (sym c.in-Ok.ensures.index) c.in-Ok.ensures.verdict in record {
      seat = c.claim-claimed.ensures.same;
      each = ap (map f) items ∙ map-append f entries (entry ∷ []) ∙ (λ i. c.loop-index.invariant.each i ++ c.in-Ok.ensures.index i ∷ []) ∙ sym (below-push n was x some.0) ∙ sym (ap (below n) some.1);
      verdicts = subst (All P) (sym items) (All-push P entries entry c.loop-index.invariant.verdicts right);
    }
