-- The first that passes, of a list or of numbers, and what a loop over numbers has added.
use Rattle.std.proofs.Common.{◌≡◌, ◌<◌, ◌≤◌, ◌+◌, ◌-◌, ◌++◌, ℕ, suc, Bool, true, false, cond, List, [], ◌∷◌, Some, None, find, flat_map, refl, sym, ap, ◌∙◌, arith, add-one, append_assoc}
use Rattle.std.specs.Prelude.{position}
use Rattle.aud_node.specs.Lists.{first_index, numbers_from}
use Rattle.aud_session_facts.proofs.Steps.{given-more}

pub first_position : {X : Type 0} (test : X → Bool) (xs : List X) → first_index test xs ≡ position test xs
first_position test [] = refl
first_position test (x ∷ xs) = grind (arith, first_position test xs)

module _ (test : ℕ → Bool) (n end : ℕ) where
  begins : n < end → find test (numbers_from n (end - n)) ≡ cond (test n) (Some n) (find test (numbers_from (suc n) (end - suc n)))
  begins h = let more : end - n ≡ suc (end - suc n) = omega arith in ap (λ k. find test (numbers_from n k)) more

  -- it is this one
  pub found_here : n < end → test n ≡ true → find test (numbers_from n (end - n)) ≡ Some n
  found_here h passes = begins h ∙ ap (λ b. cond b (Some n) (find test (numbers_from (suc n) (end - suc n)))) passes

  -- it is a later one
  pub found_later : n < end → test n ≡ false → find test (numbers_from n (end - n)) ≡ find test (numbers_from (n + 1) (end - (n + 1)))
  found_later h fails =
      begins h
      ∙ ap (λ b. cond b (Some n) (find test (numbers_from (suc n) (end - suc n)))) fails
      ∙ ap (λ k. find test (numbers_from k (end - k))) (sym (add-one n))

  -- there is none
  pub found_nowhere : end ≤ n → find test (numbers_from n (end - n)) ≡ None
  found_nowhere h = let none : end - n ≡ 0 = omega arith in ap (λ k. find test (numbers_from n k)) none

-- after what was there, what the numbers so far give, and one more
pub added-more : {Y : Type 0} (f : ℕ → List Y) (i : ℕ) (first old new : List Y) → old ≡ first ++ flat_map f (numbers_from 0 i) → new ≡ old ++ f i
    → new ≡ first ++ flat_map f (numbers_from 0 (i + 1))
added-more f i first old new was more =
    more ∙ ap (λ ys. ys ++ f i) was ∙ append_assoc first (flat_map f (numbers_from 0 i)) (f i) ∙ ap (λ ys. first ++ ys) (sym (given-more f i))
