-- Consecutive numbers and positions, and lists that ascend.
use Rattle.std.proofs.Common.{◌≡◌, ◌<◌, ◌+◌, ℕ, zero, suc, Bool, ◌∷◌, ◌++◌, filter, length, get_or, Some, slice_get, refl, ap, ◌∙◌, arith, ◌≤◌, map, replicate}
use Rattle.std.specs.List.Sorted.{IsNonDecreasing, IsStrictlyIncreasing}
use Rattle.std.proofs.lemmas.List.Kept.{IsStrictlyIncreasing-filter}
use Rattle.std.proofs.lemmas.Map.Keys.{sorted_from_strictly_increasing, non_decreasing_from_sorted}
use Rattle.std.proofs.lemmas.Option.{get_or_from_slice_get}
use Rattle.aud_node.specs.Lists.{numbers_from}
use Rattle.std.proofs.lemmas.List.{map-append}
use Rattle.aud_node.specs.Stream.{positions_after}

-- the number at an index
pub number_at : (first count k : ℕ) → k < count → slice_get (numbers_from first count) k ≡ Some (first + k)
number_at first zero k h = absurd (omega arith)
number_at first (suc count) zero h = grind arith
number_at first (suc count) (suc k) h = grind (arith, number_at (suc first) count k)

-- there are so many
pub length-numbers : (first count : ℕ) → length (numbers_from first count) ≡ count
length-numbers first zero = refl
length-numbers first (suc count) = ap suc (length-numbers (suc first) count)

-- those after so many others
pub numbers_more : (first one more : ℕ) → numbers_from first (one + more) ≡ numbers_from first one ++ numbers_from (first + one) more
numbers_more first zero more = grind arith
numbers_more first (suc one) more =
    let e : suc one + more ≡ suc (one + more) = omega arith in
    let f : suc first + one ≡ first + suc one = omega arith in
    grind (arith, e, f, numbers_more (suc first) one more)

-- those that pass ascend
pub filter-ascends : (p : ℕ → Bool) (first count : ℕ) → IsStrictlyIncreasing (filter p (numbers_from first count))
filter-ascends p first count =
    IsStrictlyIncreasing-filter p (numbers_from first count) (λ k h.
    let all = length-numbers first count in
    let here = at k (omega (arith, all, h)) in
    let next = at (k + 1) (omega (arith, all, h)) in
    omega (arith, here, next))
  where
    at : (k : ℕ) → k < count → get_or (numbers_from first count) k 0 ≡ first + k
    at k h = get_or_from_slice_get (numbers_from first count) k (first + k) 0 (number_at first count k h)

-- so they don't descend
pub non_decreasing : (p : ℕ → Bool) (first count : ℕ) → IsNonDecreasing (filter p (numbers_from first count))
non_decreasing p first count = non_decreasing_from_sorted _ (sorted_from_strictly_increasing _ (filter-ascends p first count))

-- what is made of positions goes by what is made of each
pub map_positions : {X : Type 0} (f g : ℕ → X) (low count : ℕ) → ((p : ℕ) → low < p → p ≤ low + count → f p ≡ g p) → map f (positions_after low count) ≡ map g (positions_after low count)
map_positions f g low zero same = refl
map_positions f g low (suc count) same = grind (arith, map_positions f g (suc low) count)

-- what is made of so many positions, and then of more
pub map_more : {X : Type 0} (f : ℕ → X) (low one more : ℕ) → map f (positions_after low (one + more)) ≡ map f (positions_after low one) ++ map f (positions_after (low + one) more)
map_more f low one more =
    let e : suc low + one ≡ suc (low + one) = omega arith in
    ap (map f) (numbers_more (suc low) one more) ∙ map-append f (positions_after low one) _ ∙ ap (λ n. map f (positions_after low one) ++ map f (numbers_from n more)) e

-- the same is made of each position
pub map_same : {X : Type 0} (x : X) (low count : ℕ) → map (λ _. x) (positions_after low count) ≡ replicate count x
map_same x low zero = refl
map_same x low (suc count) = ap (λ xs. x ∷ xs) (map_same x (suc low) count)
