-- What the rule of the tickets says of the numbers in the seats' lists.
use Rattle.std.proofs.Common.{◌≡◌, ℕ, zero, suc, ◌+◌, ◌<◌, ◌≤◌, Bool, true, false, List, [], ◌∷◌, length, slice_index_or, Contains, refl, arith, ⊎_elim, eq-zero-or-pos, nat_lt, ltb-true, ltb-false, eq-eqb, ne_eqb}
use mathlib.Core.Logic.{dite}
use mathlib.Core.Option.{some}
use native.Mathlib.Decide.{ℕ_discrete}
use lib.ListN.{get_elem?}
use Rattle.atomic_table.specs.Table.{State}
use Rattle.aud_desk.specs.declared.seat_view.SeatView.{SeatView}
use Rattle.aud_desk.specs.declared.seat_view.Bound.{Bound}
use Rattle.aud_desk.specs.Draws.{weigh_below, is_late, is_same, times}
use Rattle.aud_desk.specs.Tickets.{TicketLists, IsSeatAt, next_number, total}
use Rattle.aud_desk.proofs.Lists.{total-at, total-two, late-below, once-below, none-below}

-- a number of a list stands there at least once, and the other way round
times-contained : (x : ℕ) (xs : List ℕ) (k : ℕ) → k < length xs → slice_index_or xs k x ≡ x → 0 < times x xs
times-contained x [] k low at = absurd (omega arith)
times-contained x (y ∷ ys) zero low at = let one : is_same x y ≡ 1 = rw (eq-eqb y x at) refl in omega arith
times-contained x (y ∷ ys) (suc k) low at = let r = times-contained x ys k (omega arith) at in omega arith

contained-times : (x : ℕ) (xs : List ℕ) → 0 < times x xs → Contains xs x
contained-times x [] has = absurd (omega arith)
contained-times x (y ∷ ys) has = dite (ℕ_discrete y x)
    (λ same. (0, omega arith, same))
    (λ apart. let z : is_same x y ≡ 0 = rw (ne_eqb y x apart) refl in
    let r = contained-times x ys (omega arith) in (suc r.0, omega (arith, r.1), r.2))

-- where the total is something, one seat has some of it
total-some : (f : SeatView → ℕ) (vs : List SeatView) → 0 < total f vs → (i : ℕ) × (v : SeatView) × (get_elem? vs i ≡ some v) × (0 < f v)
total-some f [] has = absurd (omega arith)
total-some f (v ∷ vs) has = ⊎_elim
    (λ none. let r = total-some f vs (omega (arith, none)) in (suc r.0, r.1, r.2, r.3))
    (λ mine. (0, v, refl, mine))
    (eq-zero-or-pos (f v))

-- a number is once below a word that is past it, and not at all below another
once_if_past : (x w : ℕ) → (b : Bool) → nat_lt x w ≡ b → (weigh_below (is_same x) w ≤ 1) × (0 < weigh_below (is_same x) w → x < w)
once_if_past x w true is = let past : x < w = ltb-true x w is in (omega (arith, once-below x w past), λ _. past)
once_if_past x w false is = let none = none-below x w (ltb-false x w is) in (omega (arith, none), λ has. absurd (omega (arith, none)))

module _ (k : Bound) (s : State (Unit {0}) SeatView) where
  pub apart : (i j x : ℕ) (v w : SeatView) → TicketLists k s → IsSeatAt s i v → IsSeatAt s j w → Contains v.drawn x → Contains w.drawn x → i ≡ j
  apart i j x v w r at at' has has' = dite (ℕ_discrete j i)
      (λ same. omega arith)
      (λ other. let two = total-two (λ (u : SeatView). times x u.drawn) s.views i j v w at other at' in
      let all = r.each_once (is_same x) in
      let most = (once_if_past x (next_number s) (nat_lt x (next_number s)) refl).0 in
      let one = times-contained x v.drawn has.0 has.1 has.2 in
      let one' = times-contained x w.drawn has'.0 has'.1 has'.2 in
      absurd (omega arith))

  pub once : (i x : ℕ) (v : SeatView) → TicketLists k s → IsSeatAt s i v → times x v.drawn ≤ 1
  once i x v r at =
      let mine = total-at (λ (u : SeatView). times x u.drawn) s.views i v at in
      let all = r.each_once (is_same x) in
      omega (arith, (once_if_past x (next_number s) (nat_lt x (next_number s)) refl).0)

  pub below_word : (i x : ℕ) (v : SeatView) → TicketLists k s → IsSeatAt s i v → Contains v.drawn x → x < next_number s
  below_word i x v r at has =
      let mine = total-at (λ (u : SeatView). times x u.drawn) s.views i v at in
      let all = r.each_once (is_same x) in
      let one = times-contained x v.drawn has.0 has.1 has.2 in
      (once_if_past x (next_number s) (nat_lt x (next_number s)) refl).1 (omega arith)

  pub some_seat : (x : ℕ) → TicketLists k s → x < next_number s → (i : ℕ) × (v : SeatView) × IsSeatAt s i v × Contains v.drawn x
  some_seat x r low =
      let all = r.each_once (is_same x) in
      let it = total-some (λ (u : SeatView). times x u.drawn) s.views (omega (arith, once-below x (next_number s) low)) in
      (it.0, it.1, it.2, contained-times x it.1.drawn it.3)

  pub all_below : (i past x : ℕ) (v : SeatView) → TicketLists k s → IsSeatAt s i v → Contains v.drawn past → k.n ≤ past → x < k.n
      → (j : ℕ) × (w : SeatView) × IsSeatAt s j w × Contains w.drawn x
  all_below i past x v r at has late low = some_seat x r (omega (arith, below_word i past v r at has))

  pub bounded : TicketLists k s → next_number s ≤ k.n + k.seats
  bounded r =
      let all = r.each_once (is_late k.n) in
      omega (arith, late-below k.n (next_number s), r.passes)
