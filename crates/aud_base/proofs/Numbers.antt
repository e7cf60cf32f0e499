-- Tests of numbers, and consecutive numbers.
use Rattle.std.proofs.Common.{◌≡◌, ◌≤◌, ◌+◌, ℕ, zero, suc, Bool, true, false, cond, List, [], ◌∷◌, ◌++◌, length, refl, sym, ap, ◌∙◌, arith, append-nil, nat_lt, Some, option_map, slice_get}
use Rattle.std.specs.List.{filter}
use Rattle.std.proofs.lemmas.Bool.{lt-leb}
use Rattle.std.proofs.lemmas.List.Elements.{filter-append}
use Rattle.aud_base.specs.Lists.{numbers_from}

-- a number that is not less than another fails the test
pub lt_false : (a b : ℕ) → b ≤ a → nat_lt a b ≡ false
lt_false a b h = lt-leb (suc a) b (omega arith)

-- one number more at the end
pub numbers_from-suc : (first count : ℕ) → numbers_from first (suc count) ≡ numbers_from first count ++ (first + count) ∷ []
numbers_from-suc first zero = let e : first + 0 ≡ first = omega arith in ap (λ n. n ∷ []) (sym e)
numbers_from-suc first (suc count) =
    let e : suc first + count ≡ first + suc count = omega arith in
    ap (λ ns. first ∷ ns) (numbers_from-suc (suc first) count ∙ ap (λ n. numbers_from (suc first) count ++ n ∷ []) e)

-- the same of the numbers from 0 on, as a loop over a list counts them
pub numbers_from-more : (count : ℕ) → numbers_from 0 (count + 1) ≡ numbers_from 0 count ++ count ∷ []
numbers_from-more count =
    let e : count + 1 ≡ suc count = omega arith in
    let f : 0 + count ≡ count = omega arith in
    ap (numbers_from 0) e ∙ numbers_from-suc 0 count ∙ ap (λ n. numbers_from 0 count ++ n ∷ []) f

-- the numbers of a list's elements, as they are read
pub slice_get-numbers : {X : Type 0} (first : ℕ) (xs : List X) (k : ℕ) → slice_get (numbers_from first (length xs)) k ≡ option_map (λ _. first + k) (slice_get xs k)
slice_get-numbers first [] k = refl
slice_get-numbers first (x ∷ xs) zero = let e : first ≡ first + 0 = omega arith in ap Some e
slice_get-numbers first (x ∷ xs) (suc k) =
    let e : suc first + k ≡ first + suc k = omega arith in slice_get-numbers (suc first) xs k ∙ ap (λ n. option_map (λ _. n) (slice_get xs k)) e

-- the numbers that pass, with one number more: for a loop that keeps them
pub filter-more : (p : ℕ → Bool) (i : ℕ) (kept : List ℕ) → kept ≡ filter p (numbers_from 0 i) → cond (p i) (kept ++ i ∷ []) kept ≡ filter p (numbers_from 0 (i + 1))
filter-more p i kept is = go (p i) refl ∙ sym (ap (filter p) (numbers_from-more i) ∙ filter-append p (numbers_from 0 i) (i ∷ []))
  where
    go : (b : Bool) → b ≡ b → cond b (kept ++ i ∷ []) kept ≡ filter p (numbers_from 0 i) ++ cond b (i ∷ []) []
    go true _ = ap (λ ns. ns ++ i ∷ []) is
    go false _ = is ∙ sym (append-nil (filter p (numbers_from 0 i)))
