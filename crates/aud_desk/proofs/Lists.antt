-- Weights of drawn numbers, added up over seats.
use Rattle.std.proofs.Common.{◌≡◌, ℕ, zero, suc, ◌+◌, ◌-◌, ◌<◌, ◌≤◌, ◌≢◌, Bool, List, [], ◌∷◌, ◌++◌, set, sym, refl, ap, ◌∙◌, arith, nat_lt, lt-ltb, eq-eqb, ne_eqb, All}
use native.Mathlib.Decide.{ℕ_discrete}
use Rattle.std.proofs.lemmas.List.Elements.{filter-append}
use Rattle.std.specs.Prelude.{if◌then◌else◌}
use Rattle.std.proofs.lemmas.Bool.Decides.{nat_tests}
use mathlib.Core.Option.{some, some-injective, some-ne-none}
use lib.ListN.{get_elem?}
use Rattle.aud_desk.specs.declared.seat_view.SeatView.{SeatView}
use Rattle.aud_desk.specs.Draws.{weigh, weigh_below, is_late, is_same, late_count, past_all, below}
use Rattle.aud_desk.specs.Tickets.{total}

-- what each changes of a total: another view at a place, and one view more
pub total-set : (f : SeatView → ℕ) (vs : List SeatView) (i : ℕ) (v w : SeatView) → get_elem? vs i ≡ some v → total f (set vs i w) + f v ≡ total f vs + f w
total-set f [] i v w e = absurd (some-ne-none v (sym e))
total-set f (x ∷ xs) zero v w e = let is : f x ≡ f v = ap f (some-injective x v e) in omega arith
total-set f (x ∷ xs) (suc i) v w e = let r = total-set f xs i v w e in omega arith

pub total-push : (f : SeatView → ℕ) (vs : List SeatView) (w : SeatView) → total f (vs ++ w ∷ []) ≡ total f vs + f w
total-push f [] w = omega arith
total-push f (x ∷ xs) w = let r = total-push f xs w in omega arith

-- one seat has no more than all
pub total-at : (f : SeatView → ℕ) (vs : List SeatView) (i : ℕ) (v : SeatView) → get_elem? vs i ≡ some v → f v ≤ total f vs
total-at f [] i v e = absurd (some-ne-none v (sym e))
total-at f (x ∷ xs) zero v e = let is : f x ≡ f v = ap f (some-injective x v e) in omega arith
total-at f (x ∷ xs) (suc i) v e = let r = total-at f xs i v e in omega arith

-- the weight of two lists one after the other
pub weigh-append : (h : ℕ → ℕ) (xs ys : List ℕ) → weigh h (xs ++ ys) ≡ weigh h xs + weigh h ys
weigh-append h [] ys = omega arith
weigh-append h (x ∷ xs) ys = let r = weigh-append h xs ys in omega arith

-- below w there are w - n numbers from n on
pub late-below : (n w : ℕ) → weigh_below (is_late n) w ≡ w - n
late-below n zero = omega arith
late-below n (suc w) = let r = late-below n w in grind (arith, nat_tests)

-- a number past the end costs a pass
pub cost : (n x p : ℕ) → 0 < p → (if nat_lt x n then p else (p - 1)) + is_late n x ≡ p
cost n x p h = grind (arith, nat_tests)

-- where no number is r or more, all are below it
pub past_all-le : (xs : List ℕ) (r : ℕ) → late_count r xs ≡ 0 → past_all xs ≤ r
past_all-le [] r e = omega arith
past_all-le (x ∷ xs) r e = let k = past_all-le xs r (omega arith) in grind (arith, nat_tests)

-- after a number from n on there is one
pub late-push : (n x : ℕ) (xs : List ℕ) → n ≤ x → 0 < late_count n (xs ++ x ∷ [])
late-push n x [] h = grind (arith, nat_tests)
late-push n x (y ∷ ys) h = let r = late-push n x ys h in omega arith

-- past a list that gained a number past all of it
pub past_all-push : (xs : List ℕ) (x : ℕ) → past_all xs ≤ x → past_all (xs ++ x ∷ []) ≡ x + 1
past_all-push [] x h = omega arith
past_all-push (y ∷ ys) x h = let r = past_all-push ys x (omega arith) in omega arith

-- a number below n comes last among those below n
pub below-push : (n : ℕ) (xs : List ℕ) (x : ℕ) → x < n → below n (xs ++ x ∷ []) ≡ below n xs ++ x ∷ []
below-push n xs x h = filter-append (λ y. nat_lt y n) xs (x ∷ []) ∙ ap (λ (b : Bool). below n xs ++ (if b then x ∷ [] else [])) (lt-ltb x n h)

-- where all others weigh nothing, one seat has the total
pub total-one : (f : SeatView → ℕ) (vs : List SeatView) (i : ℕ) (v : SeatView) → get_elem? vs i ≡ some v → ((j : ℕ) (u : SeatView) → j ≢ i → get_elem? vs j ≡ some u → f u ≡ 0) → total f vs ≡ f v
total-one f [] i v e none_else = absurd (some-ne-none v (sym e))
total-one f (x ∷ xs) zero v e none_else =
    let is : f x ≡ f v = ap f (some-injective x v e) in
    let rest = total-none f xs (λ j u at. none_else (suc j) u (λ h. omega arith) at) in omega arith
  where
    total-none : (f : SeatView → ℕ) (vs : List SeatView) → ((j : ℕ) (u : SeatView) → get_elem? vs j ≡ some u → f u ≡ 0) → total f vs ≡ 0
    total-none f [] h = refl
    total-none f (x ∷ xs) h = omega (arith, h 0 x refl, total-none f xs (λ j u at. h (suc j) u at))
total-one f (x ∷ xs) (suc i) v e none_else =
    omega (arith, none_else 0 x (λ h. omega arith) refl, total-one f xs i v e (λ j u apart at. none_else (suc j) u (λ h. apart (omega arith)) at))

-- two seats have no more than all
pub total-two : (f : SeatView → ℕ) (vs : List SeatView) (i j : ℕ) (v u : SeatView) → get_elem? vs i ≡ some v → j ≢ i → get_elem? vs j ≡ some u → f v + f u ≤ total f vs
total-two f [] i j v u e apart e' = absurd (some-ne-none v (sym e))
total-two f (x ∷ xs) zero zero v u e apart e' = absurd (apart refl)
total-two f (x ∷ xs) zero (suc j) v u e apart e' = let is : f x ≡ f v = ap f (some-injective x v e) in omega (arith, total-at f xs j u e')
total-two f (x ∷ xs) (suc i) zero v u e apart e' = let is : f x ≡ f u = ap f (some-injective x u e') in omega (arith, total-at f xs i v e)
total-two f (x ∷ xs) (suc i) (suc j) v u e apart e' = omega (arith, total-two f xs i j v u e (λ h. apart (omega arith)) e')

-- below w, which is not past i, i does not stand
pub none-below : (i w : ℕ) → w ≤ i → weigh_below (is_same i) w ≡ 0
none-below i zero h = refl
none-below i (suc w) h = let r = none-below i w (omega arith) in grind (arith, nat_tests)

-- one number more, where i stands once before it or is it
once-step : (i w : ℕ) → Dec (w ≡ i) → (i < w → weigh_below (is_same i) w ≡ 1) → i < suc w → weigh_below (is_same i) (suc w) ≡ 1
once-step i w (yes e) before h = let r = none-below i w (omega arith) in rw (eq-eqb w i e) (omega arith)
once-step i w (no ne) before h = let low : i < w = omega arith in let r = before low in rw (ne_eqb w i ne) (omega arith)

-- below w each number stands once
pub once-below : (i w : ℕ) → i < w → weigh_below (is_same i) w ≡ 1
once-below i zero h = absurd (omega arith)
once-below i (suc w) h = once-step i w (ℕ_discrete w i) (once-below i w) h

module _ {X : Type 0} (P : X → Type 0) where
  -- what is so of all is so of those before the last
  pub all-init : (xs : List X) (x : X) → All P (xs ++ x ∷ []) → All P xs
  all-init [] x h k d low = absurd (omega arith)
  all-init (y ∷ ys) x h zero d low = h 0 d (omega arith)
  all-init (y ∷ ys) x h (suc k) d low = all-init ys x (λ j e l. h (suc j) e (omega arith)) k d (omega arith)

  -- and of the last
  pub all-last : (xs : List X) (x : X) → All P (xs ++ x ∷ []) → P x
  all-last [] x h = h 0 x (omega arith)
  all-last (y ∷ ys) x h = all-last ys x (λ j e l. h (suc j) e (omega arith))
