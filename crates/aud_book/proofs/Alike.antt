-- Lists that look alike, element by element.
use Rattle.std.proofs.Common.{◌≡◌, ℕ, zero, suc, ◌+◌, ◌<◌, List, [], ◌∷◌, length, get_or, map, ap, ◌∙◌, arith}
use Rattle.aud_base.specs.Lists.{numbers_from}

abbrev rest_of : {A : Type 0} → List A → List A
rest_of [] = []
rest_of (x ∷ xs) = xs

abbrev first_of : {A : Type 0} → A → List A → A
first_of d [] = d
first_of d (x ∷ xs) = x

-- lists that look the same look the same at each index
pub alike-at : {A B C : Type 0} (f : A → C) (g : B → C) (xs : List A) (ys : List B) (i : ℕ) (d : A) (e : B) → i < length xs → i < length ys → map f xs ≡ map g ys → f (get_or xs i d) ≡ g (get_or ys i e)
alike-at f g [] ys i d e h h' is = absurd (omega arith)
alike-at f g (x ∷ xs) [] i d e h h' is = absurd (omega arith)
alike-at f g (x ∷ xs) (y ∷ ys) zero d e h h' is = ap (first_of (f x)) is
alike-at f g (x ∷ xs) (y ∷ ys) (suc i) d e h h' is = alike-at f g xs ys i d e (omega arith) (omega arith) (ap rest_of is)

-- where elements are numbered, each has the number of its index
numbered-from : {A : Type 0} (f : A → ℕ) (xs : List A) (first i : ℕ) (d : A) → i < length xs → map f xs ≡ numbers_from first (length xs) → f (get_or xs i d) ≡ first + i
numbered-from f [] first i d h is = absurd (omega arith)
numbered-from f (x ∷ xs) first zero d h is =
    let e : first ≡ first + 0 = omega arith in
    let head : f x ≡ first = ap (first_of first) is in
    head ∙ e
numbered-from f (x ∷ xs) first (suc i) d h is =
    let e : suc first + i ≡ first + suc i = omega arith in
    numbered-from f xs (suc first) i d (omega arith) (ap rest_of is) ∙ e

-- so it is where they are numbered from 0 on
pub number-at : {A : Type 0} (f : A → ℕ) (xs : List A) (i : ℕ) (d : A) → i < length xs → map f xs ≡ numbers_from 0 (length xs) → f (get_or xs i d) ≡ i
number-at f xs i d h is =
    let e : 0 + i ≡ i = omega arith in
    numbered-from f xs 0 i d h is ∙ e
