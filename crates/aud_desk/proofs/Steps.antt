-- Each kind of step keeps the rule.
use Rattle.std.proofs.Common.{◌≡◌, ℕ, suc, ◌+◌, ◌%◌, ◌^◌, ◌<◌, true, [], ◌∷◌, get_or, set, sym, refl, ◌∙◌, subst, arith, length-set, get_or-set_same, ⊎_elim}
use mathlib.Core.Option.{none}
use Rattle.atomic_table.specs.Table.{Me, step, keeps, stepped, Allows, Splits, Joins}
use Rattle.atomic_table.proofs.Lists.{at_set, at_snoc}
use Rattle.aud_desk.specs.declared.seat_view.SeatView.{SeatView}
use Rattle.aud_desk.specs.declared.seat_view.Bound.{Bound}
use Rattle.aud_desk.specs.Draws.{weigh, is_late, late_count}
use Rattle.aud_desk.specs.Tickets.{Fits, TicketLists, one_pass_fewer, starts, claimed, Claims, joined, ended}
use Rattle.aud_desk.proofs.Lists.{total-set, total-push, total-at, weigh-append, late-below, cost, past_all-le}

-- claim: a live seat with a pass draws the next number
pub claims : (k : Bound) (slots id : ℕ) (me : Me (Unit {0}) SeatView) → me.0.live ≡ true → 0 < me.0.passes
    → Allows (TicketLists k) slots id me 0 (λ x. (x + 1) % 2 ^ 64) (Claims (step slots 0 1 0 none) me)
claims k slots id me live has s r _ at small =
    let x : ℕ = get_or s.words 0 0 in
    let v : SeatView = me.0 in
    let w : SeatView = claimed v x in
    let fit = (r.seats_fit id v at).0 live in
    let late = r.each_once (is_late k.n) in
    let late_is = late-below k.n x in
    let some_pass = total-at (λ (u : SeatView). u.passes) s.views id v at in
    let passes = r.passes in
    let room = r.room in
    let next : x + 1 ≡ (x + 1) % 2 ^ 64 = omega arith in
    let pays : w.passes + is_late k.n x ≡ v.passes = rw (sym fit.0) (cost v.n x v.passes has) in
    let mine = weigh-append (is_late k.n) v.drawn (x ∷ []) in
    let fresh : late_count x v.drawn ≡ 0 = omega (arith, total-at (λ (u : SeatView). late_count x u.drawn) s.views id v at, r.each_once (is_late x), late-below x x) in (
      w,
      keeps,
      tt,
      subst (λ (z : ℕ). TicketLists k (stepped s 0 z id me.1 w keeps)) next record {
        room = room;
        one_word = length-set s.words 0 (x + 1) ∙ r.one_word;
        each_once = λ h. let t = total-set (λ (u : SeatView). weigh h u.drawn) s.views id v w at in
            let was = r.each_once h in
            let more = weigh-append h v.drawn (x ∷ []) in
            let word : get_or (set s.words 0 (x + 1)) 0 0 ≡ suc x = get_or-set_same s.words 0 (x + 1) 0 (omega (arith, r.one_word)) ∙ omega arith in
            rw word (omega arith);
        passes = let t = total-set (λ (u : SeatView). u.passes) s.views id v w at in
            let l = total-set (λ (u : SeatView). late_count k.n u.drawn) s.views id v w at in
            omega arith;
        seats_fit = λ j u e. ⊎_elim
            (λ here. subst (Fits k) here.1 ((λ _. (fit.0, fit.1, λ none_left. omega arith)), λ dead. absurd (cc)))
            (λ there. r.seats_fit j u there.1)
            (at_set s.views id j w u e);
      },
      (refl, past_all-le v.drawn x fresh),
    )

-- split: a live seat with more than one pass hands one to a new seat
pub splits : (k : Bound) (id : ℕ) (v : SeatView) → v.live ≡ true → 1 < v.passes → Splits (TicketLists k) id v (one_pass_fewer v) (starts v)
splits k id v live more s r at =
    let w : SeatView = one_pass_fewer v in
    let n : SeatView = starts v in
    let fit = (r.seats_fit id v at).0 live in record {
      room = r.room;
      one_word = r.one_word;
      each_once = λ h. let t = total-set (λ (u : SeatView). weigh h u.drawn) s.views id v w at in
          let p = total-push (λ (u : SeatView). weigh h u.drawn) (set s.views id w) n in
          let was = r.each_once h in omega arith;
      passes = let t = total-set (λ (u : SeatView). u.passes) s.views id v w at in
          let p = total-push (λ (u : SeatView). u.passes) (set s.views id w) n in
          let t' = total-set (λ (u : SeatView). late_count k.n u.drawn) s.views id v w at in
          let p' = total-push (λ (u : SeatView). late_count k.n u.drawn) (set s.views id w) n in
          let was = r.passes in omega arith;
      seats_fit = λ j u e. ⊎_elim
          (λ old. ⊎_elim
          (λ here. subst (Fits k) here.1 ((λ _. (fit.0, fit.1, λ none_left. absurd (omega arith))), λ dead. absurd (cc)))
          (λ there. r.seats_fit j u there.1)
          (at_set s.views id j w u old))
          (λ new. subst (Fits k) new ((λ _. (fit.0, fit.1, λ none_left. absurd (omega arith))), λ dead. absurd (cc)))
          (at_snoc (set s.views id w) n u j e);
    }

-- join: a live seat takes over what another drew, and its passes
pub joins : (k : Bound) (id : ℕ) (v : SeatView) (other : ℕ) (w : SeatView) → v.live ≡ true → Joins (TicketLists k) id v other w (joined v w) ended
joins k id v other w live s r at apart at' =
    let b : SeatView = joined v w in
    let both = set s.views id b in
    let fit = (r.seats_fit id v at).0 live in
    let other_fits : Fits k w = ⊎_elim (λ here. absurd (apart here.0)) (λ there. r.seats_fit other w there.1) (at_set s.views id other b w at') in record {
      room = r.room;
      one_word = r.one_word;
      each_once = λ h. let t = total-set (λ (u : SeatView). weigh h u.drawn) s.views id v b at in
          let t' = total-set (λ (u : SeatView). weigh h u.drawn) both other w ended at' in
          let m = weigh-append h v.drawn w.drawn in
          let was = r.each_once h in omega arith;
      passes = let t = total-set (λ (u : SeatView). u.passes) s.views id v b at in
          let t' = total-set (λ (u : SeatView). u.passes) both other w ended at' in
          let l = total-set (λ (u : SeatView). late_count k.n u.drawn) s.views id v b at in
          let l' = total-set (λ (u : SeatView). late_count k.n u.drawn) both other w ended at' in
          let m = weigh-append (is_late k.n) v.drawn w.drawn in
          let was = r.passes in omega arith;
      seats_fit = λ j u e. ⊎_elim
          (λ here. subst (Fits k) here.1 ((λ alive. absurd (cc)), λ _. (refl, refl)))
          (λ there. ⊎_elim
          (λ here. subst (Fits k) here.1
          ((λ _. (fit.0, fit.1, λ none_left. let m = weigh-append (is_late k.n) v.drawn w.drawn in let some_late = fit.2 (omega arith) in omega arith)), λ dead. absurd (cc)))
          (λ still. r.seats_fit j u still.1)
          (at_set s.views id j b u there.1))
          (at_set both other j ended u e);
    }
