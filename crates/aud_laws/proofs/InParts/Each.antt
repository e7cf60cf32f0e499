-- Lists of which one has something for each element of the other, and tests of both.
use Rattle.std.proofs.Common.{◌≡◌, ℕ, zero, suc, Bool, true, false, cond, List, [], ◌∷◌, map, filter, Some, slice_get, refl, sym, ap, subst, ◌∙◌}
use Rattle.std.specs.List.{All}
use Rattle.std.proofs.lemmas.List.Elements.{All-head, All-tail}
use Rattle.std.proofs.lemmas.Option.{none-some, same_Some}
use Rattle.aud_base.specs.OneForEach.{OneForEach}

-- two tests in either order
pub filter-swap : {X : Type 0} (p q : X → Bool) (xs : List X) → filter p (filter q xs) ≡ filter q (filter p xs)
filter-swap p q [] = refl
filter-swap p q (x ∷ xs) = go (p x) (q x) refl refl (filter-swap p q xs)
  where
    passes-p : p x ≡ true → filter p (x ∷ filter q xs) ≡ x ∷ filter p (filter q xs)
    passes-p is = ap (λ b. cond b (x ∷ filter p (filter q xs)) (filter p (filter q xs))) is

    fails-p : p x ≡ false → filter p (x ∷ filter q xs) ≡ filter p (filter q xs)
    fails-p is = ap (λ b. cond b (x ∷ filter p (filter q xs)) (filter p (filter q xs))) is

    passes-q : q x ≡ true → filter q (x ∷ filter p xs) ≡ x ∷ filter q (filter p xs)
    passes-q is = ap (λ b. cond b (x ∷ filter q (filter p xs)) (filter q (filter p xs))) is

    fails-q : q x ≡ false → filter q (x ∷ filter p xs) ≡ filter q (filter p xs)
    fails-q is = ap (λ b. cond b (x ∷ filter q (filter p xs)) (filter q (filter p xs))) is

    go : (b c : Bool) → p x ≡ b → q x ≡ c → filter p (filter q xs) ≡ filter q (filter p xs)
        → filter p (cond c (x ∷ filter q xs) (filter q xs)) ≡ filter q (cond b (x ∷ filter p xs) (filter p xs))
    go true true one two ih = passes-p one ∙ ap (λ ys. x ∷ ys) ih ∙ sym (passes-q two)
    go true false one two ih = ih ∙ sym (fails-q two)
    go false true one two ih = fails-p one ∙ ih
    go false false one two ih = ih

module _ {A B : Type 0} (Is : A → B → Type 0) where
  -- what is there for those that pass passes too
  pub each-filter : (test : A → Bool) (its : B → Bool) → ((x : A) (y : B) → Is x y → its y ≡ test x) → (xs : List A) (ys : List B) → OneForEach Is xs ys → OneForEach Is (filter test xs) (filter its ys)
  each-filter test its same [] [] is = tt
  each-filter test its same [] (y ∷ ys) is = absurd is
  each-filter test its same (x ∷ xs) [] is = absurd is
  each-filter test its same (x ∷ xs) (y ∷ ys) is =
      subst (λ b. OneForEach Is (filter test (x ∷ xs)) (cond b (y ∷ filter its ys) (filter its ys))) (sym (same x y is.0)) (go (test x) (each-filter test its same xs ys is.1))
    where
      go : (b : Bool) → OneForEach Is (filter test xs) (filter its ys) → OneForEach Is (cond b (x ∷ filter test xs) (filter test xs)) (cond b (y ∷ filter its ys) (filter its ys))
      go true rest = (is.0, rest)
      go false rest = rest

  -- what is there for elements of which something holds is there in another way
  pub each-turned : (Are : A → B → Type 0) (P : A → Type 0) → ((x : A) (y : B) → P x → Is x y → Are x y) → (xs : List A) (ys : List B) → All P xs → OneForEach Is xs ys → OneForEach Are xs ys
  each-turned Are P turn [] [] all is = tt
  each-turned Are P turn [] (y ∷ ys) all is = absurd is
  each-turned Are P turn (x ∷ xs) [] all is = absurd is
  each-turned Are P turn (x ∷ xs) (y ∷ ys) all is = (turn x y (All-head P x xs all) is.0, each-turned Are P turn xs ys (All-tail P x xs all) is.1)

  -- what is there for the element at a place
  pub each-there : (xs : List A) (ys : List B) (i : ℕ) (x : A) → OneForEach Is xs ys → slice_get xs i ≡ Some x → (y : B) × Is x y
  each-there [] ys i x is at = absurd (none-some x at)
  each-there (z ∷ xs) [] i x is at = absurd is
  each-there (z ∷ xs) (y ∷ ys) zero x is at = (y, subst (λ w. Is w y) (same_Some z x at) is.0)
  each-there (z ∷ xs) (y ∷ ys) (suc i) x is at = each-there xs ys i x is.1 at

  -- the one for one element
  pub for-one : (x : A) (ys : List B) → OneForEach Is (x ∷ []) ys → (y : B) × Is x y
  for-one x [] is = absurd is
  for-one x (y ∷ ys) is = (y, is.0)

  -- where there is one for each, there are all
  pub collected : {C : Type 0} (of : C → A) (cs : List C) → All (λ c. (y : B) × Is (of c) y) cs → (ys : List B) × OneForEach Is (map of cs) ys
  collected of [] all = ([], tt)
  collected of (c ∷ cs) all =
      let (y, is) = All-head (λ d. (z : B) × Is (of d) z) c cs all in
      let (ys, are) = collected of cs (All-tail (λ d. (z : B) × Is (of d) z) c cs all) in
      (y ∷ ys, (is, are))
