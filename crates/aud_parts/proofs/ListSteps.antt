-- Steps of loops over lists, and what lists have after a sort.
use Rattle.std.proofs.Common.{◌≡◌, ◌<◌, ◌+◌, ℕ, suc, Bool, true, false, not, cond, ◌||◌, List, [], ◌∷◌, ◌++◌, length, map, take, drop, get_or, Option, Some, None, option_map, slice_get, nat_lt, refl, sym, subst, ap, ◌∙◌, arith}
use Rattle.std.specs.List.{AllByRecursion, list_any, flat_map, filter_map, cons_option, dedup, dedup_from, position, position_or_len}
use Rattle.std.specs.Option.{option_to_list}
use Rattle.std.specs.Prelude.{nat_eq}
use Rattle.std.proofs.lemmas.Bool.{eqb-true, lt-ltb, le-ltb, ltb-true, ltb-false}
use Rattle.std.proofs.lemmas.List.{flat_map_more, take_more}
use Rattle.std.proofs.lemmas.List.Elements.{filter_map-append}
use Rattle.std.proofs.lemmas.List.Folds.{list_any-append, list_any_more}
use Rattle.aud_base.specs.OneForEach.{OneForEach}
use Rattle.aud_tap.specs.Names.{first_index}
use Rattle.aud_base.proofs.Lists.{drop_at}

-- what the elements give, one after another, with one element more
pub flat_map-item : {X A : Type 0} (f : X → List A) (xs : List X) (i : ℕ) (x : X) (old new : List A) → i < length xs → x ≡ get_or xs i x
    → old ≡ flat_map f (take i xs) → new ≡ old ++ f x → new ≡ flat_map f (take (i + 1) xs)
flat_map-item f xs i x old new within read before after =
    after ∙ ap (λ ys. ys ++ f x) before ∙ flat_map_more f [] (take i xs) x
    ∙ ap (λ y. flat_map f (take i xs ++ y ∷ [])) read ∙ sym (ap (flat_map f) (take_more xs i x within))

-- an element that there may be, as a list
maybe_one : {A : Type 0} (o : Option A) → option_to_list o ≡ cons_option o []
maybe_one None = refl
maybe_one (Some a) = refl

-- the same where an element gives one at most
pub filter_map-item : {X A : Type 0} (f : X → Option A) (xs : List X) (i : ℕ) (x : X) (old new : List A) → i < length xs → x ≡ get_or xs i x
    → old ≡ filter_map f (take i xs) → new ≡ old ++ option_to_list (f x) → new ≡ filter_map f (take (i + 1) xs)
filter_map-item f xs i x old new within read before after =
    after ∙ ap (λ ys. ys ++ option_to_list (f x)) before ∙ ap (λ ys. filter_map f (take i xs) ++ ys) (maybe_one (f x))
    ∙ sym (filter_map-append f (take i xs) (x ∷ []))
    ∙ ap (λ y. filter_map f (take i xs ++ y ∷ [])) read ∙ sym (ap (filter_map f) (take_more xs i x within))

-- what holds of two lists together holds of each, and what holds of each holds of both together
pub all-parts : {X : Type 0} (P : X → Type 0) (xs ys : List X) → AllByRecursion P (xs ++ ys) → AllByRecursion P xs × AllByRecursion P ys
all-parts P [] ys all = (tt, all)
all-parts P (x ∷ xs) ys all = let rest = all-parts P xs ys all.1 in ((all.0, rest.0), rest.1)

pub all-both : {X : Type 0} (P : X → Type 0) (xs ys : List X) → AllByRecursion P xs → AllByRecursion P ys → AllByRecursion P (xs ++ ys)
all-both P [] ys left right = right
all-both P (x ∷ xs) ys left right = (left.0, all-both P xs ys left.1 right)

-- what stands for each element, and for one more
pub each-push : {A B : Type 0} (Is : A → B → Type 0) (xs : List A) (ys : List B) (x : A) (y : B) → OneForEach Is xs ys → Is x y → OneForEach Is (xs ++ x ∷ []) (ys ++ y ∷ [])
each-push Is [] [] x y all one = (one, tt)
each-push Is [] (b ∷ ys) x y all one = absurd all
each-push Is (a ∷ xs) [] x y all one = absurd all
each-push Is (a ∷ xs) (b ∷ ys) x y all one = (all.0, each-push Is xs ys x y all.1 one)

-- the same of the elements so far
pub each-more : {A B : Type 0} (Is : A → B → Type 0) (xs : List A) (i : ℕ) (x : A) (old new : List B) (y : B) → i < length xs → x ≡ get_or xs i x
    → OneForEach Is (take i xs) old → Is x y → new ≡ old ++ y ∷ [] → OneForEach Is (take (i + 1) xs) new
each-more Is xs i x old new y within read all one put =
    subst (λ zs. OneForEach Is zs new) (sym (take_more xs i x within))
    (subst (λ z. OneForEach Is (take i xs ++ z ∷ []) new) read
    (subst (OneForEach Is (take i xs ++ x ∷ [])) (sym put) (each-push Is (take i xs) old x y all one)))

-- what stands for each element from an index on, with the element at that index
pub one_for_each-from : {A B : Type 0} (Is : A → B → Type 0) (xs : List A) (ys : List B) (i : ℕ) (x : A) (y : B)
    → slice_get xs i ≡ Some x → slice_get ys i ≡ Some y → Is x y
    → OneForEach Is (drop (suc i) xs) (drop (suc i) ys) → OneForEach Is (drop i xs) (drop i ys)
one_for_each-from Is xs ys i x y at_x at_y here rest = rw (drop_at xs i x at_x, drop_at ys i y at_y) (here, rest)

-- ---- tests

-- a choice beside itself
or_twice : (a b : Bool) → (a || b) ≡ (a || (a || b))
or_twice true b = refl
or_twice false b = refl

-- one more element, which may pass
pub any-item : {X : Type 0} (p : X → Bool) (xs : List X) (i : ℕ) (x : X) → i < length xs → x ≡ get_or xs i x → (old new : Bool)
    → old ≡ list_any p (take i xs) → new ≡ (old || p x) → new ≡ list_any p (take (i + 1) xs)
any-item p xs i x within read old new before after =
    after ∙ ap (λ b. b || p x) before ∙ ap (λ y. list_any p (take i xs) || p y) read ∙ sym (list_any_more p xs i x within)

-- the same beside what was tested before
pub any-more : {X : Type 0} (p : X → Bool) (xs : List X) (i : ℕ) (x : X) → i < length xs → x ≡ get_or xs i x → (first old new : Bool)
    → old ≡ (first || list_any p (take i xs)) → new ≡ (old || p x) → new ≡ (first || list_any p (take (i + 1) xs))
any-more p xs i x within read first old new before after =
    after ∙ ap (λ b. b || p x) before ∙ together first
    ∙ ap (λ b. first || b) (ap (λ y. list_any p (take i xs) || p y) read ∙ sym (list_any_more p xs i x within))
  where
    together : (b : Bool) → ((b || list_any p (take i xs)) || p x) ≡ (b || (list_any p (take i xs) || p x))
    together true = refl
    together false = refl

-- whether any of what the elements give passes
pub any-flat_map : {A B : Type 0} (test : B → Bool) (f : A → List B) (xs : List A) → list_any test (flat_map f xs) ≡ list_any (λ x. list_any test (f x)) xs
any-flat_map test f [] = refl
any-flat_map test f (x ∷ xs) = list_any-append test (f x) (flat_map f xs) ∙ ap (λ b. list_any test (f x) || b) (any-flat_map test f xs)

any-dedup_from : (test : ℕ → Bool) (x : ℕ) (xs : List ℕ) → list_any test (dedup_from nat_eq x xs) ≡ (test x || list_any test xs)
any-dedup_from test x [] = refl
any-dedup_from test x (y ∷ ys) = go (nat_eq y x) refl (any-dedup_from test x ys) (any-dedup_from test y ys)
  where
    go : (b : Bool) → nat_eq y x ≡ b → list_any test (dedup_from nat_eq x ys) ≡ (test x || list_any test ys)
        → list_any test (dedup_from nat_eq y ys) ≡ (test y || list_any test ys)
        → list_any test (cond b (dedup_from nat_eq x ys) (x ∷ dedup_from nat_eq y ys)) ≡ (test x || (test y || list_any test ys))
    go true e same other = same ∙ or_twice (test x) (list_any test ys) ∙ ap (λ z. test x || (test z || list_any test ys)) (sym (eqb-true y x e))
    go false e same other = ap (λ b. test x || b) other

-- whether any passes of numbers that are given each once
pub any-dedup : (test : ℕ → Bool) (xs : List ℕ) → list_any test (dedup nat_eq xs) ≡ list_any test xs
any-dedup test [] = refl
any-dedup test (x ∷ xs) = any-dedup_from test x xs

-- ---- places

-- the first place, of a list with one element more in front
step : (n count : ℕ) → cond (nat_lt (1 + n) (suc count)) (Some (1 + n)) None ≡ option_map suc (cond (nat_lt n count) (Some n) None)
step n count = go (nat_lt n count) refl
  where
    next : 1 + n ≡ suc n
    next = omega arith

    go : (b : Bool) → nat_lt n count ≡ b → cond (nat_lt (1 + n) (suc count)) (Some (1 + n)) None ≡ option_map suc (cond b (Some n) None)
    go true e = ap (λ v. cond v (Some (1 + n)) None) (lt-ltb (1 + n) (suc count) (omega (arith, ltb-true n count e))) ∙ ap Some next
    go false e = ap (λ v. cond v (Some (1 + n)) None) (le-ltb (1 + n) (suc count) (omega (arith, ltb-false n count e)))

-- the first place that passes, as the index of a list of what stands for the elements
pub position-first_index : {A B : Type 0} (p : A → Bool) (q : B → Bool) (f : A → B) → ((x : A) → p x ≡ q (f x)) → (xs : List A) → position p xs ≡ first_index q (map f xs)
position-first_index p q f same [] = refl
position-first_index p q f same (x ∷ xs) = go (p x) refl (position-first_index p q f same xs)
  where
    n : ℕ
    n = position_or_len p xs

    go : (b : Bool) → p x ≡ b → position p xs ≡ first_index q (map f xs)
        → cond (nat_lt (cond (not b) (1 + n) 0) (suc (length xs))) (Some (cond (not b) (1 + n) 0)) None ≡ cond (q (f x)) (Some 0) (option_map suc (first_index q (map f xs)))
    go true e rest =
        ap (λ v. cond v (Some 0) None) (lt-ltb 0 (suc (length xs)) (omega arith))
        ∙ ap (λ v. cond v (Some 0) (option_map suc (first_index q (map f xs)))) (sym e ∙ same x)
    go false e rest =
        step n (length xs) ∙ ap (option_map suc) rest
        ∙ ap (λ v. cond v (Some 0) (option_map suc (first_index q (map f xs)))) (sym e ∙ same x)
