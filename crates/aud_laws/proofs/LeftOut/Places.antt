-- Where the elements of a list stand once those that fail a test are left out.
use Rattle.std.proofs.Common.{◌≡◌, ◌≤◌, ◌-◌, ◌+◌, ℕ, zero, suc, Bool, true, false, cond, List, [], ◌∷◌, length, take, drop, filter, Some, None, slice_get, refl, sym, ap, ◌∙◌, arith}
use Rattle.std.proofs.lemmas.Option.{none-some}
use Rattle.aud_base.specs.Lists.{between}

module _ {X : Type 0} (keep : X → Bool) where
  -- of so many first elements, how many are kept
  abbrev pub moved : List X → ℕ → ℕ
  moved [] i = 0
  moved (x ∷ xs) zero = 0
  moved (x ∷ xs) (suc i) = cond (keep x) (suc (moved xs i)) (moved xs i)

  -- where the element stood that is at this place among those that are kept
  abbrev pub stood : List X → ℕ → ℕ
  stood [] k = 0
  stood (x ∷ xs) zero = cond (keep x) 0 (suc (stood xs zero))
  stood (x ∷ xs) (suc k) = suc (stood xs (cond (keep x) k (suc k)))

  -- of no elements none is kept
  pub moved-none : (xs : List X) → moved xs 0 ≡ 0
  moved-none [] = refl
  moved-none (x ∷ xs) = refl

  -- an element that is kept, at its new place
  pub at-moved : (xs : List X) (i : ℕ) (x : X) → slice_get xs i ≡ Some x → keep x ≡ true → slice_get (filter keep xs) (moved xs i) ≡ Some x
  at-moved [] i x at kept = absurd (none-some x at)
  at-moved (y ∷ ys) zero x at kept = grind arith
  at-moved (y ∷ ys) (suc i) x at kept = grind (arith, at-moved ys i x)

  -- and where it stood
  pub at-stood : (xs : List X) (k : ℕ) (x : X) → slice_get (filter keep xs) k ≡ Some x → slice_get xs (stood xs k) ≡ Some x
  at-stood [] k x at = absurd (none-some x at)
  at-stood (y ∷ ys) zero x at = grind (arith, at-stood ys zero x)
  at-stood (y ∷ ys) (suc k) x at = grind (arith, at-stood ys k x, at-stood ys (suc k) x)

  -- what stands there is kept
  pub kept-there : (xs : List X) (k : ℕ) (x : X) → slice_get (filter keep xs) k ≡ Some x → keep x ≡ true
  kept-there [] k x at = absurd (none-some x at)
  kept-there (y ∷ ys) zero x at = grind (arith, kept-there ys zero x)
  kept-there (y ∷ ys) (suc k) x at = grind (arith, kept-there ys k x, kept-there ys (suc k) x)

  -- the place of an element that is kept, there and back
  pub stood-moved : (xs : List X) (i : ℕ) (x : X) → slice_get xs i ≡ Some x → keep x ≡ true → stood xs (moved xs i) ≡ i
  stood-moved [] i x at kept = absurd (none-some x at)
  stood-moved (y ∷ ys) zero x at kept = grind arith
  stood-moved (y ∷ ys) (suc i) x at kept = grind (arith, stood-moved ys i x)

  -- back and there
  pub moved-stood : (xs : List X) (k : ℕ) (x : X) → slice_get (filter keep xs) k ≡ Some x → moved xs (stood xs k) ≡ k
  moved-stood [] k x at = absurd (none-some x at)
  moved-stood (y ∷ ys) zero x at = grind (arith, moved-stood ys zero x)
  moved-stood (y ∷ ys) (suc k) x at = grind (arith, moved-stood ys k x, moved-stood ys (suc k) x)

  -- with one element more, which is kept
  pub moved-next : (xs : List X) (i : ℕ) (x : X) → slice_get xs i ≡ Some x → keep x ≡ true → moved xs (suc i) ≡ suc (moved xs i)
  moved-next [] i x at kept = absurd (none-some x at)
  moved-next (y ∷ ys) zero x at kept = grind (arith, moved-none ys)
  moved-next (y ∷ ys) (suc i) x at kept = grind (arith, moved-next ys i x)

  -- with one element more, which isn't
  pub moved-past : (xs : List X) (i : ℕ) (x : X) → slice_get xs i ≡ Some x → keep x ≡ false → moved xs (suc i) ≡ moved xs i
  moved-past [] i x at kept = absurd (none-some x at)
  moved-past (y ∷ ys) zero x at kept = grind (arith, moved-none ys)
  moved-past (y ∷ ys) (suc i) x at kept = grind (arith, moved-past ys i x)

  -- past the end there are no more
  pub moved-end : (xs : List X) (i : ℕ) → slice_get xs i ≡ None → moved xs (suc i) ≡ moved xs i
  moved-end [] i at = refl
  moved-end (y ∷ ys) zero at = absurd (none-some y (sym at))
  moved-end (y ∷ ys) (suc i) at = grind (arith, moved-end ys i)

  -- before a later place there are not fewer
  pub moved-rises : (xs : List X) (i j : ℕ) → i ≤ j → moved xs i ≤ moved xs j
  moved-rises [] i j h = omega arith
  moved-rises (x ∷ xs) zero j h = omega arith
  moved-rises (x ∷ xs) (suc i) zero h = absurd (omega arith)
  moved-rises (x ∷ xs) (suc i) (suc j) h = grind (arith, moved-rises xs i j)

  -- of all elements all that are kept
  pub moved-all : (xs : List X) → moved xs (length xs) ≡ length (filter keep xs)
  moved-all [] = refl
  moved-all (x ∷ xs) = grind (arith, moved-all xs)

  -- and never more
  pub moved-within : (xs : List X) (i : ℕ) → moved xs i ≤ length (filter keep xs)
  moved-within [] i = omega arith
  moved-within (x ∷ xs) zero = omega arith
  moved-within (x ∷ xs) (suc i) = grind (arith, moved-within xs i)

  -- what is kept of the first elements
  pub take-moved : (xs : List X) (i : ℕ) → take (moved xs i) (filter keep xs) ≡ filter keep (take i xs)
  take-moved [] zero = refl
  take-moved [] (suc i) = refl
  take-moved (x ∷ xs) zero = refl
  take-moved (x ∷ xs) (suc i) = grind (arith, take-moved xs i)

  -- and of the others
  pub drop-moved : (xs : List X) (i : ℕ) → drop (moved xs i) (filter keep xs) ≡ filter keep (drop i xs)
  drop-moved [] zero = refl
  drop-moved [] (suc i) = refl
  drop-moved (x ∷ xs) zero = refl
  drop-moved (x ∷ xs) (suc i) = grind (arith, drop-moved xs i)

  -- how many are kept before a later place: those before the first one, and those between them
  moved-drop : (xs : List X) (i j : ℕ) → i ≤ j → moved xs j ≡ moved xs i + moved (drop i xs) (j - i)
  moved-drop [] zero j h = omega arith
  moved-drop [] (suc i) j h = omega arith
  moved-drop (x ∷ xs) zero j h = let all : j - 0 ≡ j = omega arith in grind (arith, all)
  moved-drop (x ∷ xs) (suc i) zero h = absurd (omega arith)
  moved-drop (x ∷ xs) (suc i) (suc j) h = let less : suc j - suc i ≡ j - i = omega arith in grind (arith, less, moved-drop xs i j)

  -- what is kept of the elements between two places
  pub between-moved : (xs : List X) (i j : ℕ) → i ≤ j → between (filter keep xs) (moved xs i) (moved xs j) ≡ filter keep (between xs i j)
  between-moved xs i j h =
      let count : moved xs j - moved xs i ≡ moved (drop i xs) (j - i) = omega (arith, moved-drop xs i j h) in
      ap (λ n. take n (drop (moved xs i) (filter keep xs))) count
      ∙ ap (take (moved (drop i xs) (j - i))) (drop-moved xs i)
      ∙ take-moved (drop i xs) (j - i)
