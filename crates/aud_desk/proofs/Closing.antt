-- Once the seats are one again, it has each number below the end once.
use Rattle.std.proofs.Common.{◌≡◌, ◌≢◌, ℕ, ◌<◌, ◌≤◌, Bool, true, false, List, get_or, sym, refl, ap, ◌∙◌, arith}
use mathlib.Core.Option.{some}
use lib.ListN.{get_elem?}
use Rattle.atomic_table.specs.Table.{State, Final, Seen}
use Rattle.aud_desk.specs.declared.seat_view.SeatView.{SeatView}
use Rattle.aud_desk.specs.declared.seat_view.Bound.{Bound}
use Rattle.aud_desk.specs.Draws.{is_late, is_same, times, late_count}
use Rattle.aud_desk.specs.Tickets.{TicketLists}
use Rattle.aud_desk.proofs.Lists.{total-at, total-one, total-two, late-below, once-below}

-- a seat that isn't live has ended
dead_or_live : (b : Bool) → (b ≡ true → ⊥) → b ≡ false
dead_or_live true h = absurd (h refl)
dead_or_live false h = refl

-- where a seat drew as many numbers past the end as there are seats, no other has drawn any, and it has each below once
pub all_drawn : (k : Bound) (s : State (Unit {0}) SeatView) (id : ℕ) (v : SeatView) → TicketLists k s → get_elem? s.views id ≡ some v → 0 < k.seats → k.seats ≤ late_count k.n v.drawn
    → (i : ℕ) → i < k.n → times i v.drawn ≡ 1
all_drawn k s id v r at some_seat enough i low =
    let w = get_or s.words 0 0 in
    let late = total-at (λ (u : SeatView). late_count k.n u.drawn) s.views id v at in
    let all = r.passes in
    let none_else : (j : ℕ) (u : SeatView) → j ≢ id → get_elem? s.views j ≡ some u → times i u.drawn ≡ 0 = λ j u apart there.
    let pass = total-at (λ (x : SeatView). x.passes) s.views j u there in
    let two = total-two (λ (x : SeatView). late_count k.n x.drawn) s.views id j v u at apart there in
    let fit = r.seats_fit j u there in
    let dead = dead_or_live u.live (λ alive. let has = (fit.0 alive).2 (omega arith) in omega arith) in
    ap (times i) (fit.1 dead).1 in
    let word = late-below k.n w in
    let far = r.each_once (is_late k.n) in
    sym (total-one (λ (u : SeatView). times i u.drawn) s.views id v at none_else) ∙ r.each_once (is_same i) ∙ once-below i w (omega arith)

-- so where the table is at its end
pub closes : (k : Bound) (id : ℕ) (v : SeatView) (ws : List ℕ) (xs : List (Unit {0})) → Final (Seen (TicketLists k) id v) ws xs → 0 < k.seats → k.seats ≤ late_count k.n v.drawn
    → (i : ℕ) → i < k.n → times i v.drawn ≡ 1
closes k id v ws xs f some_seat enough = all_drawn k f.0 id v f.1.0 f.1.1 some_seat enough
