-- The places of taps and records by what they name.
use Rattle.std.proofs.Common.{◌≡◌, ℕ, ◌+◌, suc, Bool, List, [], ◌∷◌, length, refl, ap, ◌∙◌, arith, Some, option_map, slice_get}
use Rattle.std.specs.List.{filter}
use Rattle.aud_base.specs.Places.{places_where}
use Rattle.aud_node.specs.Lists.{numbers_from, first_index}

module _ {X : Type 0} where
  module _ (p : X → Bool) where
    -- the first place of an element that passes, of elements that stand after n others
    first-from : (test : ℕ → Bool) (n : ℕ) (xs : List X) → ((k : ℕ) (x : X) → slice_get xs k ≡ Some x → test (n + k) ≡ p x)
        → slice_get (filter test (numbers_from n (length xs))) 0 ≡ option_map (λ k. n + k) (first_index p xs)
    first-from test n [] at = refl
    first-from test n (x ∷ xs) at =
        grind (arith, at 0 x refl, first-from test (suc n) xs (λ k y is. let e : suc n + k ≡ n + suc k = omega arith in ap test e ∙ at (suc k) y is))

    -- the first of the places of those that pass
    pub first-place : (test : ℕ → Bool) (xs : List X) → ((k : ℕ) (x : X) → slice_get xs k ≡ Some x → test k ≡ p x) → slice_get (places_where test (length xs)) 0 ≡ first_index p xs
    first-place test xs at = grind (arith, first-from test 0 xs (λ k x is. let e : 0 + k ≡ k = omega arith in ap test e ∙ at k x is))
