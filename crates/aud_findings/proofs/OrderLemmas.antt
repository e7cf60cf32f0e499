-- A list that is sorted by a number and keeps the order of ties is the list in order.
use Rattle.std.proofs.Common.{◌≡◌, ℕ, suc, Bool, true, false, List, [], ◌∷◌, filter, length, map, ◌≤◌, ◌<◌, refl, sym, ap, ◌∙◌, subst, arith, nat_eq}
use Rattle.std.specs.Prelude.{nat_le, nat_lt, if◌then◌else◌}
use Rattle.std.specs.Fn.{Called, ComputesKey, Mut}
use Rattle.std.specs.List.{slice_index_or}
use Rattle.std.specs.List.Sorted.{IsNonDecreasingBy, IsSortedByKey, IsStableByKey, ties}
use Rattle.std.specs.Ordering.{nat_cmp, is_lt}
use Rattle.std.proofs.Common.{Bor}
use Rattle.std.proofs.lemmas.Fn.{always_returns_same}
use Rattle.std.proofs.lemmas.List.Sorted.{IsNonDecreasingBy-from_sort}
use Rattle.aud_findings.specs.InOrder.{put_in, in_order}

module _ {X : Type 0} (n : X → ℕ) where
  -- the elements with the same number
  abbrev same : X → X → Bool
  same x y = nat_eq (n y) (n x)

  abbrev AllFrom : ℕ → List X → Type 0
  AllFrom k [] = Unit {0}
  AllFrom k (y ∷ ys) = (k ≤ n y) × AllFrom k ys

  abbrev Up : List X → Type 0
  Up [] = Unit {0}
  Up (y ∷ ys) = AllFrom (n y) ys × Up ys

  -- no element below all has the number
  none-below : (x : X) (k : ℕ) (ys : List X) → n x < k → AllFrom k ys → filter (same x) ys ≡ []
  none-below x k [] h all = refl
  none-below x k (y ∷ ys) h all = grind (arith, none-below x k ys h all.1, all.0)

  itself : (x : X) → same x x ≡ true
  itself x = grind arith

  kept-front : (x y : X) (ys : List X) → same x y ≡ true → filter (same x) (y ∷ ys) ≡ y ∷ filter (same x) ys
  kept-front x y ys e = grind (arith, e)

  passed-front : (x y : X) (ys : List X) → same x y ≡ false → filter (same x) (y ∷ ys) ≡ filter (same x) ys
  passed-front x y ys e = grind (arith, e)

  from-less : (j k : ℕ) (ys : List X) → j ≤ k → AllFrom k ys → AllFrom j ys
  from-less j k [] h all = tt
  from-less j k (y ∷ ys) h all = (omega (arith, all.0), from-less j k ys h all.1)

  -- ---- the list in order ascends

  put-from : (k : ℕ) (x : X) (ys : List X) → k ≤ n x → AllFrom k ys → AllFrom k (put_in n x ys)
  put-from k x [] h all = (h, tt)
  put-from k x (y ∷ ys) h all = either (nat_le (n x) (n y)) (put-from k x ys h all.1)
    where
      either : (b : Bool) → AllFrom k (put_in n x ys) → AllFrom k (if b then x ∷ y ∷ ys else y ∷ put_in n x ys)
      either true rest = (h, all)
      either false rest = (all.0, rest)

  put-up : (x : X) (ys : List X) → Up ys → Up (put_in n x ys)
  put-up x [] up = (tt, tt)
  put-up x (y ∷ ys) up = either (nat_le (n x) (n y)) refl (put-up x ys up.1)
    where
      either : (b : Bool) → nat_le (n x) (n y) ≡ b → Up (put_in n x ys) → Up (if b then x ∷ y ∷ ys else y ∷ put_in n x ys)
      either true e rest = let le : n x ≤ n y = grind (arith, e) in ((le, from-less (n x) (n y) ys le up.0), up)
      either false e rest = let le : n y ≤ n x = grind (arith, e) in (put-from (n y) x ys le up.0, rest)

  in_order-up : (xs : List X) → Up (in_order n xs)
  in_order-up [] = tt
  in_order-up (x ∷ xs) = put-up x (in_order n xs) (in_order-up xs)

  -- ---- and keeps the order of ties

  swapped : (x a b : X) (ys : List X) → n b < n a → filter (same x) (a ∷ b ∷ ys) ≡ filter (same x) (b ∷ a ∷ ys)
  swapped x a b ys h = grind (arith, h)

  front-kept : (x z : X) (ys zs : List X) → filter (same x) ys ≡ filter (same x) zs → filter (same x) (z ∷ ys) ≡ filter (same x) (z ∷ zs)
  front-kept x z ys zs e = grind (arith, e)

  put-keeps : (x y : X) (ys : List X) → filter (same x) (put_in n y ys) ≡ filter (same x) (y ∷ ys)
  put-keeps x y [] = refl
  put-keeps x y (z ∷ zs) = either (nat_le (n y) (n z)) refl (put-keeps x y zs)
    where
      either : (b : Bool) → nat_le (n y) (n z) ≡ b → filter (same x) (put_in n y zs) ≡ filter (same x) (y ∷ zs)
          → filter (same x) (if b then y ∷ z ∷ zs else z ∷ put_in n y zs) ≡ filter (same x) (y ∷ z ∷ zs)
      either true e rest = refl
      either false e rest = let lt : n z < n y = grind (arith, e) in front-kept x z (put_in n y zs) (y ∷ zs) rest ∙ sym (swapped x y z zs lt)

  in_order-keeps : (x : X) (xs : List X) → filter (same x) (in_order n xs) ≡ filter (same x) xs
  in_order-keeps x [] = refl
  in_order-keeps x (y ∷ ys) = put-keeps x y (in_order n ys) ∙ front-kept x y (in_order n ys) ys (in_order-keeps x ys)

  -- ---- no other list does both

  head-of : (y z : X) (ys zs : List X) → y ∷ ys ≡ z ∷ zs → y ≡ z
  head-of y z ys zs e = cc

  tail-of : (y z : X) (ys zs : List X) → y ∷ ys ≡ z ∷ zs → ys ≡ zs
  tail-of y z ys zs e = cc

  not-empty : (y : X) (ys : List X) → y ∷ ys ≡ [] → ⊥
  not-empty y ys e = cc

  abbrev Alike : List X → List X → Type 0
  Alike ys zs = (x : X) → filter (same x) ys ≡ filter (same x) zs

  -- the first of one isn't below the first of the other
  not-below : (y z : X) (ys zs : List X) → Up (z ∷ zs) → Alike (y ∷ ys) (z ∷ zs) → n y < n z → ⊥
  not-below y z ys zs up alike h =
      not-empty y (filter (same y) ys) (sym (kept-front y y ys (itself y)) ∙ alike y ∙ none-below y (n z) (z ∷ zs) h (refl-le, up.0))
    where
      refl-le : n z ≤ n z
      refl-le = omega arith

  same-number : (y z : X) (ys zs : List X) → Up (y ∷ ys) → Up (z ∷ zs) → Alike (y ∷ ys) (z ∷ zs) → same y z ≡ true
  same-number y z ys zs up up' alike = either (nat_lt (n y) (n z)) (nat_lt (n z) (n y)) refl refl
    where
      either : (a b : Bool) → nat_lt (n y) (n z) ≡ a → nat_lt (n z) (n y) ≡ b → same y z ≡ true
      either true b e f = absurd (not-below y z ys zs up' alike (grind (arith, e)))
      either false true e f = absurd (not-below z y zs ys up (λ x. sym (alike x)) (grind (arith, f)))
      either false false e f = grind (arith, e, f)

  same-head : (y z : X) (ys zs : List X) → same y z ≡ true → Alike (y ∷ ys) (z ∷ zs) → y ≡ z
  same-head y z ys zs e alike =
      head-of y z (filter (same y) ys) (filter (same y) zs) (sym (kept-front y y ys (itself y)) ∙ alike y ∙ kept-front y z zs e)

  alike-rest : (y : X) (ys zs : List X) → Alike (y ∷ ys) (y ∷ zs) → Alike ys zs
  alike-rest y ys zs alike x = either (same x y) refl
    where
      either : (b : Bool) → same x y ≡ b → filter (same x) ys ≡ filter (same x) zs
      either true e = tail-of y y (filter (same x) ys) (filter (same x) zs) (sym (kept-front x y ys e) ∙ alike x ∙ kept-front x y zs e)
      either false e = sym (passed-front x y ys e) ∙ alike x ∙ passed-front x y zs e

  unique : (ys zs : List X) → Up ys → Up zs → Alike ys zs → ys ≡ zs
  unique [] [] up up' alike = refl
  unique [] (z ∷ zs) up up' alike = absurd (not-empty z (filter (same z) zs) (sym (kept-front z z zs (itself z)) ∙ sym (alike z)))
  unique (y ∷ ys) [] up up' alike = absurd (not-empty y (filter (same y) ys) (sym (kept-front y y ys (itself y)) ∙ alike y))
  unique (y ∷ ys) (z ∷ zs) up up' alike =
      let head : y ≡ z = same-head y z ys zs (same-number y z ys zs up up' alike) alike in
      ap (λ x. x ∷ ys) head ∙ ap (λ xs. z ∷ xs) (unique ys zs up.1 up'.1 (alike-rest z ys zs (subst (λ x. Alike (x ∷ ys) (z ∷ zs)) head alike)))

  -- ---- what a sort ensures

  all-from : (k : ℕ) (xs : List X) → ((i : ℕ) (d : X) → i < length xs → k ≤ n (slice_index_or xs i d)) → AllFrom k xs
  all-from k [] h = tt
  all-from k (x ∷ xs) h = (h 0 x (omega arith), all-from k xs (λ i d p. h (suc i) d (omega arith)))

  up-from : (xs : List X) → IsNonDecreasingBy n xs → Up xs
  up-from [] h = tt
  up-from (x ∷ xs) h =
      (all-from (n x) xs (λ i d p. h 0 (suc i) d (omega arith) (omega arith)), up-from xs (λ i j d p q. h (suc i) (suc j) d (omega arith) (omega arith)))

  ties-are : (x y : X) → ties (λ a b. is_lt (nat_cmp (n a) (n b))) x y ≡ same x y
  ties-are x y = grind arith

  pub sorted-is : (xs ys : List X) → IsSortedByKey n nat_cmp ys → IsStableByKey n nat_cmp xs ys → ys ≡ in_order n xs
  sorted-is xs ys up stable =
      unique ys (in_order n xs) (up-from ys (IsNonDecreasingBy-from_sort n ys up)) (in_order-up xs)
      (λ x. ap (λ p. filter p ys) (sym (tied x)) ∙ stable x ∙ ap (λ p. filter p xs) (tied x) ∙ sym (in_order-keeps x xs))
    where
      tied : (x : X) → ties (λ a b. is_lt (nat_cmp (n a) (n b))) x ≡ same x
      tied x = λ i y. ties-are x y i

  -- from the clauses of `sort_by_key`, where each call gives the number of the element
  pub in_order-from_sort_by_key : {F : Type 0} {g : Mut F (Bor X × Unit {0}) ℕ} {f : F} (xs ys : List X)
      → ((key : X → ℕ) → ComputesKey g key f → IsSortedByKey key nat_cmp ys)
      → ((key : X → ℕ) → ComputesKey g key f → IsStableByKey key nat_cmp xs ys)
      → ((a : Bor X × Unit {0}) (r : ℕ) (f' : F) → Called g f a r f' → (r ≡ n a.0.now) × (f' ≡ f)) → ys ≡ in_order n xs
  in_order-from_sort_by_key {g = g} {f = f} xs ys up stable h =
      sorted-is xs ys (up n (always_returns_same g (λ a r. r ≡ n a.0.now) f h)) (stable n (always_returns_same g (λ a r. r ≡ n a.0.now) f h))

-- ---- elements seen in another way

map-put_in : {X Y : Type 0} (f : X → Y) (n : Y → ℕ) (x : X) (ys : List X) → map f (put_in (λ x. n (f x)) x ys) ≡ put_in n (f x) (map f ys)
map-put_in f n x [] = refl
map-put_in {X} {Y} f n x (y ∷ ys) = either (nat_le (n (f x)) (n (f y))) (map-put_in f n x ys)
  where
    either : (b : Bool) → map f (put_in (λ x. n (f x)) x ys) ≡ put_in n (f x) (map f ys)
        → map f (if b then x ∷ y ∷ ys else y ∷ put_in (λ x. n (f x)) x ys) ≡ (if b then f x ∷ f y ∷ map f ys else f y ∷ put_in n (f x) (map f ys))
    either true rest = refl
    either false rest = ap (λ zs. f y ∷ zs) rest

-- what is seen of elements in order is what is seen of them, in order
pub map-in_order : {X Y : Type 0} (f : X → Y) (n : Y → ℕ) (xs : List X) → map f (in_order (λ x. n (f x)) xs) ≡ in_order n (map f xs)
map-in_order f n [] = refl
map-in_order f n (x ∷ xs) = map-put_in f n x (in_order (λ x. n (f x)) xs) ∙ ap (put_in n (f x)) (map-in_order f n xs)
