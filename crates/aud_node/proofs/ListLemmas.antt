-- A list from one of its elements on, and the first of those that pass.
use Rattle.std.proofs.Common.{◌≡◌, ℕ, ◌+◌, ◌-◌, ◌<◌, zero, suc, Bool, true, false, cond, List, [], ◌∷◌, length, get_or, drop, refl, sym, ap, ◌∙◌, arith, Option, Some, None, option_map, slice_get}
use Rattle.std.proofs.lemmas.List.{drop_more}
use Rattle.std.proofs.lemmas.Bool.{false≢true}
use Rattle.std.proofs.lemmas.Option.{none-some, same_Some}
use Rattle.aud_base.proofs.Lists.{index_is_first}
use Rattle.aud_node.specs.Lists.{first_index}

-- a first index after the first element, counted from the second
pub index_next : (o : Option ℕ) (i : ℕ) → option_map suc o ≡ Some (suc i) → o ≡ Some i
index_next None i e = absurd (none-some (suc i) e)
index_next (Some j) i e =
    let same : suc j ≡ suc i = same_Some (suc j) (suc i) e in
    let is : j ≡ i = omega arith in
    ap Some is

module _ {X : Type 0} where
  -- the element that was read at n - 1 stands in front of those from n on
  pub drop-read : (xs : List X) (n : ℕ) (x : X) → 0 < n → n - 1 < length xs → x ≡ get_or xs (n - 1) x → drop (n - 1) xs ≡ x ∷ drop n xs
  drop-read xs n x some within read =
      let next : n - 1 + 1 ≡ n = omega arith in
      drop_more xs (n - 1) x within ∙ ap (λ k. get_or xs (n - 1) x ∷ drop k xs) next ∙ ap (λ y. y ∷ drop n xs) (sym read)

  module _ (p : X → Bool) where
    -- at the first index stands an element that passes
    pub first_index-found : (xs : List X) (i : ℕ) → first_index p xs ≡ Some i → (x : X) × (slice_get xs i ≡ Some x) × (p x ≡ true)
    first_index-found [] i e = absurd (none-some i e)
    first_index-found (x ∷ xs) zero e = (x, refl, index_is_first (p x) (first_index p xs) e)
    first_index-found (x ∷ xs) (suc i) e = grind (arith, first_index-found xs i)

    -- where there is no first index, no element passes
    pub first_index-none : (xs : List X) → first_index p xs ≡ None → (i : ℕ) (x : X) → slice_get xs i ≡ Some x → p x ≡ true → ⊥
    first_index-none [] e i x at passes = none-some x at
    first_index-none (y ∷ ys) e zero x at passes = grind arith
    first_index-none (y ∷ ys) e (suc i) x at passes = grind (arith, first_index-none ys)

    -- where the first element that passes a wider test passes, it is the first that does
    pub first_index-narrowed : (wider : X → Bool) → ((x : X) → p x ≡ true → wider x ≡ true) → (xs : List X) (i : ℕ) (x : X) → first_index wider xs ≡ Some i → slice_get xs i ≡ Some x → p x ≡ true
        → first_index p xs ≡ Some i
    first_index-narrowed wider widens [] i x first at passes = absurd (none-some i first)
    first_index-narrowed wider widens (y ∷ ys) zero x first at passes = ap (λ b. cond b (Some 0) (option_map suc (first_index p ys))) (ap p (same_Some y x at) ∙ passes)
    first_index-narrowed wider widens (y ∷ ys) (suc i) x first at passes = go (p y) refl (wider y) refl first (λ next. first_index-narrowed wider widens ys i x next at passes)
      where
        go : (b : Bool) → p y ≡ b → (w : Bool) → wider y ≡ w → cond w (Some 0) (option_map suc (first_index wider ys)) ≡ Some (suc i) → (first_index wider ys ≡ Some i → first_index p ys ≡ Some i)
            → cond b (Some 0) (option_map suc (first_index p ys)) ≡ Some (suc i)
        go b is true wide e ih = let none : 0 ≡ suc i = same_Some 0 (suc i) e in absurd (omega arith)
        go true is false wide e ih = absurd (false≢true (sym wide ∙ widens y is))
        go false is false wide e ih = ap (option_map suc) (ih (index_next (first_index wider ys) i e))
