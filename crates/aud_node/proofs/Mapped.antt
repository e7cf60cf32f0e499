-- What was found for each element of a list.
use Rattle.std.proofs.Common.{◌≡◌, ◌++◌, ◌+◌, ◌*◌, ◌≤◌, ℕ, zero, suc, List, [], ◌∷◌, map, length, take, drop, refl, sym, ap, ◌∙◌, subst, arith}
use Rattle.std.specs.Fork.{slice_chunk}
use Rattle.std.specs.List.{AllZip, flat_map}
use Rattle.std.proofs.Math.Nat.{suc-mul, zero-mul}
use Rattle.std.proofs.lemmas.List.{drop_all, drop-drop, map-append, take-append-drop}
use Rattle.aud_base.specs.Lists.{numbers_from}

-- what a function gives at each element
pub mapped : {A B : Type 0} (f : A → B) (R : A → B → Type 0) → ((x : A) (y : B) → R x y → y ≡ f x)
    → (xs : List A) (ys : List B) → AllZip R xs ys → ys ≡ map f xs
mapped f R turn [] [] h = refl
mapped f R turn [] (y ∷ ys) h = absurd h
mapped f R turn (x ∷ xs) [] h = absurd h
mapped f R turn (x ∷ xs) (y ∷ ys) h = rw (turn x y h.0, mapped f R turn xs ys h.1) refl

-- the lists that are given at each element, joined
pub joined : {A B C : Type 0} (f : A → List C) (v : B → List C) (R : A → B → Type 0) → ((x : A) (y : B) → R x y → v y ≡ f x)
    → (xs : List A) (ys : List B) → AllZip R xs ys → flat_map v ys ≡ flat_map f xs
joined f v R turn [] [] h = refl
joined f v R turn [] (y ∷ ys) h = absurd h
joined f v R turn (x ∷ xs) [] h = absurd h
joined f v R turn (x ∷ xs) (y ∷ ys) h = rw (turn x y h.0, joined f v R turn xs ys h.1) refl

module _ {X Y : Type 0} (f : X → Y) (size : ℕ) (xs : List X) where
  -- what a function gives at the elements of a range
  abbrev pub of_range : ℕ → List Y
  of_range number = map f (slice_chunk xs size number)

  -- what a function gives at the elements of so many ranges, after which there are no others
  of_ranges : (first count : ℕ) → length xs ≤ (first + count) * size
      → flat_map of_range (numbers_from first count) ≡ map f (drop (first * size) xs)
  of_ranges first zero l =
      sym (ap (map f) (drop_all (first * size) xs (subst (λ n. length xs ≤ n * size) (omega arith) l)))
  of_ranges first (suc count) l =
      let rest = drop (first * size) xs in
      let on : drop (suc first * size) xs ≡ drop size rest =
      ap (λ n. drop n xs) (suc-mul first size) ∙ sym (drop-drop size (first * size) xs) in
      ap (λ ys. of_range first ++ ys)
      (of_ranges (suc first) count (subst (λ n. length xs ≤ n * size) (omega arith) l) ∙ ap (map f) on)
      ∙ sym (map-append f (take size rest) (drop size rest))
      ∙ ap (map f) (take-append-drop size rest)

  -- what a function gives at the elements of all ranges
  pub of_all_ranges : (count : ℕ) → length xs ≤ count * size → flat_map of_range (numbers_from 0 count) ≡ map f xs
  of_all_ranges count l =
      of_ranges 0 count (subst (λ n. length xs ≤ n * size) (omega arith) l)
      ∙ ap (λ n. map f (drop n xs)) (zero-mul size)
