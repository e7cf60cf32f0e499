-- Elements of lists by their index.
use Rattle.std.proofs.Common.{◌≡◌, ◌<◌, ◌≤◌, ◌-◌, ◌+◌, ℕ, zero, suc, Bool, true, false, cond, ◌&&◌, ◌||◌, true≢false, List, [], ◌∷◌, ◌++◌, length, map, take, drop, Option, Some, None, option_map, unwrap_or, slice_get, refl, sym, ap, ◌∙◌, arith, Bor, MatchOption, option_copied}
use Rattle.std.specs.List.{Contains, list_all, list_any, HoldsAt}
use Rattle.std.proofs.lemmas.Option.{same_Some, none-some, slice_get_past, slice_get_read}
use Rattle.aud_base.specs.Lists.{between}

-- there is an element at each index within the list
pub element_at : {X : Type 0} (xs : List X) (i : ℕ) → i < length xs → (x : X) × (slice_get xs i ≡ Some x)
element_at [] i h = absurd (omega arith)
element_at (x ∷ xs) zero h = (x, refl)
element_at (x ∷ xs) (suc i) h = element_at xs i (omega arith)

-- the element after the first ones
pub after_these : {X : Type 0} (xs ys : List X) (y : X) → slice_get (xs ++ y ∷ ys) (length xs) ≡ Some y
after_these [] ys y = refl
after_these (x ∷ xs) ys y = after_these xs ys y

-- what is left from the index of an element on begins with that element
pub drop_at : {X : Type 0} (xs : List X) (i : ℕ) (x : X) → slice_get xs i ≡ Some x → drop i xs ≡ x ∷ drop (suc i) xs
drop_at [] i x at = absurd (none-some x at)
drop_at (y ∷ ys) zero x at = ap (λ z. z ∷ ys) (same_Some y x at)
drop_at (y ∷ ys) (suc i) x at = drop_at ys i x at

-- the elements between two indices begin with the one at the first
pub between-more : {X : Type 0} (xs : List X) (i to : ℕ) (x : X) → i < to → slice_get xs i ≡ Some x → between xs i to ≡ x ∷ between xs (suc i) to
between-more xs i to x h at =
    let more : to - i ≡ suc (to - suc i) = omega arith in
    ap (λ n. take n (drop i xs)) more ∙ ap (take (suc (to - suc i))) (drop_at xs i x at)

-- there are none where the first index isn't less
pub between-none : {X : Type 0} (xs : List X) (i to : ℕ) → to ≤ i → between xs i to ≡ []
between-none xs i to h = let none : to - i ≡ 0 = omega arith in ap (λ n. take n (drop i xs)) none

-- an element of the front is that of the list
pub slice_get-take : {X : Type 0} (n : ℕ) (xs : List X) (j : ℕ) → j < n → slice_get (take n xs) j ≡ slice_get xs j
slice_get-take zero xs j h = absurd (omega arith)
slice_get-take (suc n) [] j h = refl
slice_get-take (suc n) (x ∷ xs) zero h = refl
slice_get-take (suc n) (x ∷ xs) (suc j) h = slice_get-take n xs j (omega arith)

-- an element of what is left is that of the list, further on
pub slice_get-drop : {X : Type 0} (n : ℕ) (xs : List X) (j k : ℕ) → k ≡ n + j → slice_get (drop n xs) j ≡ slice_get xs k
slice_get-drop zero xs j k e = let same : j ≡ k = omega arith in ap (slice_get xs) same
slice_get-drop (suc n) [] j k e = refl
slice_get-drop (suc n) (x ∷ xs) j zero e = absurd (omega arith)
slice_get-drop (suc n) (x ∷ xs) j (suc k) e = slice_get-drop n xs j k (omega arith)

-- what a look-up by index borrowed is the element there: the clause of `get`
pub got : {X : Type 0} (xs : List X) (i : ℕ) (r : Option (Bor X)) → MatchOption r (length xs ≤ i) (λ x. (i < length xs) × HoldsAt (λ y. x.now ≡ y) xs i) → option_copied r ≡ slice_get xs i
got xs i None past = sym (slice_get_past xs i past)
got xs i (Some x) here = sym (slice_get_read xs (length xs) i x.now refl here.0 (here.1 x.now))

-- whether any element of a mapped list passes
pub any-map : {A B : Type 0} (test : B → Bool) (f : A → B) (xs : List A) → list_any test (map f xs) ≡ list_any (λ x. test (f x)) xs
any-map test f [] = refl
any-map test f (x ∷ xs) = ap (λ b. test (f x) || b) (any-map test f xs)

module _ {X : Type 0} where
  -- where not all pass, there is one that fails
  pub one_fails : (test : X → Bool) (xs : List X) → list_all test xs ≡ false → (x : X) × Contains xs x × (test x ≡ false)
  one_fails test [] e = absurd (true≢false e)
  one_fails test (x ∷ xs) e = go (test x) refl e (one_fails test xs)
    where
      go : (b : Bool) → test x ≡ b → (b && list_all test xs) ≡ false → (list_all test xs ≡ false → (other : X) × Contains xs other × (test other ≡ false))
          → (other : X) × Contains (x ∷ xs) other × (test other ≡ false)
      go false fails e ih = (x, (0, omega arith, refl), fails)
      go true passes e ih = (let (other, (k, h, at), fails) = ih e in (other, (suc k, omega (arith, h), at), fails))

-- a first index that is 0: the first element passes
pub index_is_first : (b : Bool) (o : Option ℕ) → cond b (Some 0) (option_map suc o) ≡ Some 0 → b ≡ true
index_is_first true o h = refl
index_is_first false None h = cc
index_is_first false (Some j) h = let e : suc j ≡ 0 = ap (λ o. unwrap_or o 0) h in absurd (omega arith)
