-- Two lists that are the same up to a place.
use Rattle.std.proofs.Common.{◌≡◌, ◌<◌, ◌≤◌, ◌+◌, ℕ, List, [], ◌∷◌, ◌++◌, length, take, slice_get, sym, ap, ◌∙◌, inl, inr, arith}
use Rattle.std.proofs.lemmas.Bool.{cases_lt}
use Rattle.std.proofs.lemmas.List.{take_all}
use Rattle.std.proofs.lemmas.Option.{none-some, slice_get_past}
use Rattle.aud_base.proofs.Lists.{element_at}
use Rattle.aud_check.proofs.Steps.{take_at}
use Rattle.aud_check.specs.Parting.{PartAt}

module _ (xs ys : List ℕ) where
  -- with one element more that is the same
  pub same_more : (i : ℕ) → i < length xs → slice_get xs i ≡ slice_get ys i → take i xs ≡ take i ys → take (i + 1) xs ≡ take (i + 1) ys
  same_more i h same before =
      let (x, at) = element_at xs i h in
      take_at xs i x at ∙ ap (λ zs. zs ++ x ∷ []) before ∙ sym (take_at ys i x (sym same ∙ at))

  -- the one is the front of the other, which has ended
  are_same : take (length xs) xs ≡ take (length xs) ys → length ys ≤ length xs → xs ≡ ys
  are_same front h = sym (take_all (length xs) xs (omega arith)) ∙ front ∙ take_all (length xs) ys h

  -- the one is the front of the other, and they aren't the same: so the other goes on
  pub goes_on : take (length xs) xs ≡ take (length xs) ys → (xs ≡ ys → ⊥) → PartAt xs ys (length xs)
  goes_on front differ = elim (cases_lt (length xs) (length ys)) [
    | inl h ↦
        let (y, at) = element_at ys (length xs) h in
        record { same_before = front; part = λ same. none-some y (sym (slice_get_past xs (length xs) (omega arith)) ∙ same ∙ at) }
    | inr h ↦ absurd (differ (are_same front h))
  ]
