-- Marks of the entries at some positions.
use Rattle.std.proofs.Common.{◌≡◌, ◌<◌, ◌+◌, ◌⊎◌, inl, inr, ℕ, zero, suc, Bool, true, false, ◌||◌, List, [], ◌∷◌, length, take, set, get_or, Some, slice_get, nat_eq, refl, sym, ap, ◌∙◌, arith, eq-eqb, ne_eqb, length-set}
use Rattle.std.specs.List.{list_any}
use Rattle.std.proofs.Math.Bool.{or-false, or-true}
use Rattle.std.proofs.lemmas.Bool.{cases_eq}
use Rattle.std.proofs.lemmas.List.Folds.{list_any_more}
use Rattle.aud_parts.specs.Private.Marks.{with_mark, AreMarked}

set-here : (marks : List Bool) (i : ℕ) → i < length marks → slice_get (set marks i true) i ≡ Some true
set-here [] i h = absurd (omega arith)
set-here (x ∷ xs) zero h = refl
set-here (x ∷ xs) (suc i) h = set-here xs i (omega arith)

set-elsewhere : (marks : List Bool) (i j : ℕ) → (j ≡ i → ⊥) → slice_get (set marks i true) j ≡ slice_get marks j
set-elsewhere [] i j h = refl
set-elsewhere (x ∷ xs) zero zero h = absurd (h refl)
set-elsewhere (x ∷ xs) zero (suc j) h = refl
set-elsewhere (x ∷ xs) (suc i) zero h = refl
set-elsewhere (x ∷ xs) (suc i) (suc j) h = set-elsewhere xs i j (λ e. h (ap suc e))

mark-length : (position : ℕ) (marks : List Bool) → length (with_mark position marks) ≡ length marks
mark-length zero marks = refl
mark-length (suc number) marks = length-set marks number true

-- one more position
pub marked-more : (count i : ℕ) (positions : List ℕ) (old new : List Bool) → i < length positions → AreMarked count (take i positions) old → new ≡ with_mark (get_or positions i 0) old
    → AreMarked count (take (i + 1) positions) new
marked-more count i positions old new h was more =
    record {
      length_is = ap length more ∙ mark-length (get_or positions i 0) old ∙ was.length_is;
      each = λ number within.
          ap (λ ms. slice_get ms number) more ∙ there (get_or positions i 0) number within
          ∙ ap Some (sym (list_any_more (nat_eq (suc number)) positions i 0 h));
    }
  where
    there : (position number : ℕ) → number < count → slice_get (with_mark position old) number ≡ Some (list_any (nat_eq (suc number)) (take i positions) || nat_eq (suc number) position)
    there zero number within =
        let apart : nat_eq (suc number) 0 ≡ false = ne_eqb (suc number) 0 (λ e. absurd (omega (arith, e))) in
        was.each number within
        ∙ ap Some (sym (or-false (list_any (nat_eq (suc number)) (take i positions))) ∙ ap (λ b. list_any (nat_eq (suc number)) (take i positions) || b) (sym apart))
    there (suc k) number within = go (cases_eq number k)
      where
        go : (number ≡ k) ⊎ (number ≡ k → ⊥) → slice_get (set old k true) number ≡ Some (list_any (nat_eq (suc number)) (take i positions) || nat_eq (suc number) (suc k))
        go (inl same) =
            let long : k < length old = omega (arith, was.length_is, same, within) in
            ap (slice_get (set old k true)) same
            ∙ set-here old k long
            ∙ ap Some (sym (or-true (list_any (nat_eq (suc number)) (take i positions))) ∙ ap (λ b. list_any (nat_eq (suc number)) (take i positions) || b) (sym (eq-eqb (suc number) (suc k) (ap suc same))))
        go (inr other) =
            set-elsewhere old k number other
            ∙ was.each number within
            ∙ ap Some (sym (or-false (list_any (nat_eq (suc number)) (take i positions)))
            ∙ ap (λ b. list_any (nat_eq (suc number)) (take i positions) || b) (sym (ne_eqb (suc number) (suc k) (λ e. other (omega (arith, e))))))
