-- Places that are noted one after another.
use Rattle.std.proofs.Common.{◌≡◌, ℕ, ◌+◌, ◌-◌, ◌<◌, zero, suc, Bool, true, false, cond, List, [], ◌∷◌, ◌++◌, length, take, get_or, refl, sym, ap, ◌∙◌, arith, Option, Some, slice_get, nat_eq, ◌||◌}
use Rattle.std.specs.List.{filter, list_any}
use Rattle.std.proofs.lemmas.List.Folds.{list_any_more}
use Rattle.std.proofs.lemmas.Bool.{eq-eqb}
use Rattle.std.proofs.lemmas.Option.{slice_get_read}
use Rattle.aud_base.specs.Places.{places_where, is_place, with_place, noted}
use Rattle.aud_base.specs.Lists.{numbers_from}
use Rattle.aud_base.proofs.Numbers.{filter-more}

-- ---- a place that is noted twice

is_place-same : (place : ℕ) → is_place place (Some place) ≡ true
is_place-same place = eq-eqb place place refl

last-put : (xs : List ℕ) (x : ℕ) → slice_get (xs ++ x ∷ []) (length xs) ≡ Some x
last-put [] x = refl
last-put (y ∷ ys) x = last-put ys x

length-more : (xs : List ℕ) (x : ℕ) → length (xs ++ x ∷ []) ≡ suc (length xs)
length-more [] x = refl
length-more (y ∷ ys) x = ap suc (length-more ys x)

length-put : (xs : List ℕ) (x : ℕ) → length (xs ++ x ∷ []) - 1 ≡ length xs
length-put xs x = let more = length-more xs x in omega (arith, more)

with_place-twice : (place : ℕ) (xs : List ℕ) → with_place place (with_place place xs) ≡ with_place place xs
with_place-twice place xs = go (is_place place (slice_get xs (length xs - 1))) refl
  where
    put : with_place place (xs ++ place ∷ []) ≡ xs ++ place ∷ []
    put =
        ap (λ b. cond b (xs ++ place ∷ []) ((xs ++ place ∷ []) ++ place ∷ []))
        (ap (λ n. is_place place (slice_get (xs ++ place ∷ []) n)) (length-put xs place) ∙ ap (is_place place) (last-put xs place) ∙ is_place-same place)

    go : (b : Bool) → is_place place (slice_get xs (length xs - 1)) ≡ b → with_place place (cond b xs (xs ++ place ∷ [])) ≡ cond b xs (xs ++ place ∷ [])
    go true is = ap (λ b. cond b xs (xs ++ place ∷ [])) is
    go false is = put

-- a place that may be noted, and then again
pub noted-more : (place : ℕ) (a b : Bool) (xs : List ℕ) → noted place b (noted place a xs) ≡ noted place (a || b) xs
noted-more place true true xs = with_place-twice place xs
noted-more place true false xs = refl
noted-more place false b xs = refl

-- ---- a place after lesser ones

-- each number is less
abbrev pub AreBelow : ℕ → List ℕ → Type 0
AreBelow n [] = Unit {0}
AreBelow n (x ∷ xs) = (x < n) × AreBelow n xs

less-false : (x n : ℕ) → x < n → nat_eq x n ≡ false
less-false x n h = grind arith

-- a place is none of lesser ones
pub is_place-below : (n : ℕ) (xs : List ℕ) (i : ℕ) → AreBelow n xs → is_place n (slice_get xs i) ≡ false
is_place-below n [] i h = refl
is_place-below n (x ∷ xs) zero h = less-false x n h.0
is_place-below n (x ∷ xs) (suc i) h = is_place-below n xs i h.1

-- consecutive numbers are less than the one after them
pub AreBelow-filter : (p : ℕ → Bool) (n first count : ℕ) → first + count ≡ n → AreBelow n (filter p (numbers_from first count))
AreBelow-filter p n first zero h = tt
AreBelow-filter p n first (suc count) h = go (p first) (AreBelow-filter p n (suc first) count (omega (arith, h)))
  where
    go : (b : Bool) → AreBelow n (filter p (numbers_from (suc first) count)) → AreBelow n (cond b (first ∷ filter p (numbers_from (suc first) count)) (filter p (numbers_from (suc first) count)))
    go true rest = (omega (arith, h), rest)
    go false rest = rest

-- the places that pass, with the next one noted where it passes: for a loop that builds an index
pub noted-next : (p : ℕ → Bool) (i : ℕ) (kept : List ℕ) → kept ≡ places_where p i → noted i (p i) kept ≡ places_where p (i + 1)
noted-next p i kept is = ap (λ xs. cond (p i) xs kept) put ∙ filter-more p i kept is
  where
    below : is_place i (slice_get kept (length kept - 1)) ≡ false
    below = ap (λ xs. is_place i (slice_get xs (length xs - 1))) is ∙ is_place-below i (filter p (numbers_from 0 i)) (length (filter p (numbers_from 0 i)) - 1) (AreBelow-filter p i 0 i (omega arith))

    put : with_place i kept ≡ kept ++ i ∷ []
    put = ap (λ b. cond b kept (kept ++ i ∷ [])) below

-- the same of a list's elements: one more, noted where it passes
pub noted-at : {X : Type 0} (p : Option X → Bool) (xs : List X) (i : ℕ) (x : X) (old new : List ℕ) → i < length xs → x ≡ get_or xs i x
    → old ≡ places_where (λ k. p (slice_get xs k)) i → new ≡ noted i (p (Some x)) old → new ≡ places_where (λ k. p (slice_get xs k)) (i + 1)
noted-at p xs i x old new within is before after =
    after ∙ ap (λ o. noted i (p o) old) (sym (slice_get_read xs (length xs) i x refl within is)) ∙ noted-next (λ k. p (slice_get xs k)) i old before

-- ---- a loop over the texts of one place

-- the place is noted where one of the first elements passes, and then the next one
pub noted-item : {X : Type 0} (place : ℕ) (p : X → Bool) (xs : List X) (i : ℕ) (x : X) (base mid new : List ℕ) → i < length xs → x ≡ get_or xs i x
    → mid ≡ noted place (list_any p (take i xs)) base → new ≡ noted place (p x) mid → new ≡ noted place (list_any p (take (i + 1) xs)) base
noted-item place p xs i x base mid new within read before after =
    after ∙ ap (noted place (p x)) before ∙ noted-more place (list_any p (take i xs)) (p x) base
    ∙ ap (λ b. noted place b base) (ap (λ y. list_any p (take i xs) || p y) read ∙ sym (list_any_more p xs i x within))
