-- The parts of a list before and after the place where a test begins to fail.
use Rattle.std.proofs.Common.{◌≡◌, ◌≤◌, ℕ, zero, suc, Bool, true, false, not, ◌&&◌, List, [], ◌∷◌, length, take, drop, filter, refl, ◌∙◌, arith}
use Rattle.std.specs.List.{AllWithin}
use Rattle.std.specs.List.Sorted.{IsPartitionPoint}
use Rattle.std.proofs.lemmas.List.Elements.{filter_agree}

module _ {X : Type 0} (p : X → Bool) where
  -- the first elements alone pass
  parts : (xs : List X) (i : ℕ) → AllWithin (λ y. p y ≡ true) xs 0 i → AllWithin (λ y. p y ≡ false) xs i (length xs) → i ≤ length xs
      → (take i xs ≡ filter p xs) × (drop i xs ≡ filter (λ y. not (p y)) xs)
  parts [] zero front back h = (refl, refl)
  parts [] (suc i) front back h = (refl, refl)
  parts (x ∷ xs) zero front back h =
      let rest = parts xs zero (λ k d a b. absurd (omega arith)) (λ k d a b. back (suc k) d (omega arith) (omega arith)) (omega arith) in
      grind (arith, back 0 x (omega arith) (omega arith), rest)
  parts (x ∷ xs) (suc i) front back h =
      let rest = parts xs i (λ k d a b. front (suc k) d (omega arith) (omega arith)) (λ k d a b. back (suc k) d (omega arith) (omega arith)) (omega arith) in
      grind (arith, front 0 x (omega arith) (omega arith), rest)

  -- the same, by what a search for the place says
  pub point_parts : (xs : List X) (i : ℕ) → IsPartitionPoint (λ y. p y ≡ true) (λ y. p y ≡ false) xs i → i ≤ length xs
      → (take i xs ≡ filter p xs) × (drop i xs ≡ filter (λ y. not (p y)) xs)
  point_parts xs i point h = parts xs i point.0 point.1 h

  -- what passes two tests, one after the other
  pub filter_both : (q : X → Bool) (xs : List X) → filter p (filter q xs) ≡ filter (λ x. q x && p x) xs
  filter_both q [] = refl
  filter_both q (x ∷ xs) = grind (arith, filter_both q xs)

  -- the elements that pass one test, and then another
  pub filter_twice : (q both : X → Bool) → ((x : X) → (q x && p x) ≡ both x) → (xs : List X) → filter p (filter q xs) ≡ filter both xs
  filter_twice q both same xs = filter_both q xs ∙ filter_agree _ _ same xs
