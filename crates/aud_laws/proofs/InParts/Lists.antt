-- Words about lists that the proofs on parts share.
use Rattle.std.proofs.Common.{◌≡◌, Bool, true, false, cond, ◌||◌, List, [], ◌∷◌, ◌++◌, Option, Some, None, filter, filter_map, flat_map, refl, sym, ap, ◌∙◌}
use Rattle.std.specs.List.{All, list_any, cons_option}
use Rattle.std.proofs.lemmas.Bool.{false≢true, or_left, or_right}
use Rattle.std.proofs.lemmas.List.Elements.{All-head, All-tail, All-nil, All-cons, All-weaker, filter-append}

-- either way the same
pub either : {X : Type 0} (b : Bool) (x : X) → cond b x x ≡ x
either true x = refl
either false x = refl

module _ {X : Type 0} (keep : X → Bool) where
  -- of elements that all fail none is kept
  pub filter-none : (xs : List X) → All (λ x. keep x ≡ false) xs → filter keep xs ≡ []
  filter-none [] all = refl
  filter-none (x ∷ xs) all =
      ap (λ b. cond b (x ∷ filter keep xs) (filter keep xs)) (All-head (λ y. keep y ≡ false) x xs all) ∙ filter-none xs (All-tail (λ y. keep y ≡ false) x xs all)

  -- of elements that all pass each is kept
  pub filter-each : (xs : List X) → All (λ x. keep x ≡ true) xs → filter keep xs ≡ xs
  filter-each [] all = refl
  filter-each (x ∷ xs) all =
      ap (λ b. cond b (x ∷ filter keep xs) (filter keep xs)) (All-head (λ y. keep y ≡ true) x xs all)
      ∙ ap (λ ys. x ∷ ys) (filter-each xs (All-tail (λ y. keep y ≡ true) x xs all))

  -- where some element passes, one is kept
  pub some-kept : (xs : List X) → list_any keep xs ≡ true → (y : X) × (ys : List X) × (filter keep xs ≡ y ∷ ys)
  some-kept [] is = absurd (false≢true is)
  some-kept (x ∷ xs) is = go (keep x) refl is (some-kept xs)
    where
      go : (b : Bool) → keep x ≡ b → (b || list_any keep xs) ≡ true → (list_any keep xs ≡ true → (y : X) × (ys : List X) × (filter keep xs ≡ y ∷ ys))
          → (y : X) × (ys : List X) × (cond b (x ∷ filter keep xs) (filter keep xs) ≡ y ∷ ys)
      go true here h ih = (x, filter keep xs, refl)
      go false none h ih = ih h

module _ {X Y : Type 0} where
  -- what elements that are kept give: of what all give, that which passes
  pub filter_map-filter : (of : X → Option Y) (keep : X → Bool) (keeps : Y → Bool) → ((x : X) (y : Y) → of x ≡ Some y → keep x ≡ keeps y)
      → (xs : List X) → filter_map of (filter keep xs) ≡ filter keeps (filter_map of xs)
  filter_map-filter of keep keeps same [] = refl
  filter_map-filter of keep keeps same (x ∷ xs) = go (of x) refl (filter_map-filter of keep keeps same xs)
    where
      left : List Y
      left = filter_map of (filter keep xs)

      both : (b : Bool) → filter_map of (cond b (x ∷ filter keep xs) (filter keep xs)) ≡ cond b (cons_option (of x) left) left
      both true = refl
      both false = refl

      go : (o : Option Y) → of x ≡ o → left ≡ filter keeps (filter_map of xs) → filter_map of (filter keep (x ∷ xs)) ≡ filter keeps (cons_option (of x) (filter_map of xs))
      go None none ih =
          both (keep x)
          ∙ ap (λ o. cond (keep x) (cons_option o left) left) none
          ∙ either (keep x) left
          ∙ ih
          ∙ sym (ap (λ o. filter keeps (cons_option o (filter_map of xs))) none)
      go (Some y) is ih =
          both (keep x)
          ∙ ap (λ o. cond (keep x) (cons_option o left) left) is
          ∙ ap (λ b. cond b (y ∷ left) left) (same x y is)
          ∙ ap (λ ys. cond (keeps y) (y ∷ ys) ys) ih
          ∙ sym (ap (λ o. filter keeps (cons_option o (filter_map of xs))) is)

  -- the same of elements that give many: those that aren't kept give nothing that passes
  pub flat_map-filter : (of left : X → List Y) (keep : X → Bool) (keeps : Y → Bool) (xs : List X) → All (λ x. cond (keep x) (left x) [] ≡ filter keeps (of x)) xs
      → flat_map left (filter keep xs) ≡ filter keeps (flat_map of xs)
  flat_map-filter of left keep keeps [] all = refl
  flat_map-filter of left keep keeps (x ∷ xs) all =
      both (keep x)
      ∙ ap (λ ys. ys ++ flat_map left (filter keep xs)) (All-head (λ y. cond (keep y) (left y) [] ≡ filter keeps (of y)) x xs all)
      ∙ ap (λ ys. filter keeps (of x) ++ ys) (flat_map-filter of left keep keeps xs (All-tail (λ y. cond (keep y) (left y) [] ≡ filter keeps (of y)) x xs all))
      ∙ sym (filter-append keeps (of x) (flat_map of xs))
    where
      both : (b : Bool) → flat_map left (cond b (x ∷ filter keep xs) (filter keep xs)) ≡ cond b (left x) [] ++ flat_map left (filter keep xs)
      both true = refl
      both false = refl

  -- of each that some element gives, some element passes
  pub given-pass : (of : X → Option Y) (test : Y → X → Bool) → ((x : X) (y : Y) → of x ≡ Some y → test y x ≡ true) → (xs : List X) → All (λ y. list_any (test y) xs ≡ true) (filter_map of xs)
  given-pass of test passes [] = All-nil (λ y. list_any (test y) [] ≡ true)
  given-pass of test passes (x ∷ xs) =
      go (of x) refl
      (All-weaker (λ y. list_any (test y) xs ≡ true) (λ y. list_any (test y) (x ∷ xs) ≡ true) (λ y is. or_right (test y x) (list_any (test y) xs) is) (filter_map of xs)
      (given-pass of test passes xs))
    where
      go : (o : Option Y) → of x ≡ o → All (λ y. list_any (test y) (x ∷ xs) ≡ true) (filter_map of xs) → All (λ y. list_any (test y) (x ∷ xs) ≡ true) (cons_option o (filter_map of xs))
      go None none rest = rest
      go (Some y) is rest = All-cons (λ z. list_any (test z) (x ∷ xs) ≡ true) y (filter_map of xs) (or_left (test y x) (list_any (test y) xs) (passes x y is)) rest
