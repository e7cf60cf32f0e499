-- What a function gives at the places of a list.
use Rattle.std.proofs.Common.{◌≡◌, ◌++◌, ℕ, suc, List, [], ◌∷◌, map, length, refl, sym, ap, ◌∙◌, arith, append_assoc, length-append, Option, Some, slice_get}
use Rattle.aud_base.specs.Lists.{numbers_from}
use Rattle.aud_base.proofs.Lists.{after_these}

module _ {X Y : Type 0} where
  -- what a function gives at the places of the last elements, which stand after n others
  at_places : (g : Option X → Y) (all xs ys : List X) (n : ℕ) → xs ++ ys ≡ all → length xs ≡ n
      → map (λ k. g (slice_get all k)) (numbers_from n (length ys)) ≡ map (λ y. g (Some y)) ys
  at_places g all xs [] n e l = refl
  at_places g all xs (y ∷ ys) n e l =
      grind (
        arith,
        sym (ap (slice_get all) l) ∙ sym (ap (λ zs. slice_get zs (length xs)) e) ∙ after_these xs ys y,
        at_places g all (xs ++ y ∷ []) ys (suc n) (append_assoc xs (y ∷ []) ys ∙ e) (omega (arith, length-append xs (y ∷ []), l)),
      )

  -- what a function gives at the place of each element
  pub at_all_places : (g : Option X → Y) (xs : List X) → map (λ k. g (slice_get xs k)) (numbers_from 0 (length xs)) ≡ map (λ x. g (Some x)) xs
  at_all_places g xs = at_places g xs [] xs 0 refl refl
