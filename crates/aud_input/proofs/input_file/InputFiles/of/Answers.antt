use Rattle.std.proofs.Common.{◌≡◌, ℕ, List, [], ◌∷◌, ◌++◌, length, ◌⊎◌, inl, inr, refl, sym, ap, ◌∙◌, arith, append-nil}
use Rattle.aud_input.specs.InputFiles.{input_files}
use Rattle.aud_input.proofs.input_file.InputFiles.of.Goals as goal

-- without a name, or without a number, there is no file
none-left : (names : List (List ℕ)) (counts : List ℕ) → (length names ≡ 0) ⊎ (length counts ≡ 0) → input_files names counts ≡ []
none-left [] counts none = refl
none-left (name ∷ names) [] none = refl
none-left (name ∷ names) (count ∷ counts) (inl none) = absurd (omega (arith, none))
none-left (name ∷ names) (count ∷ counts) (inr none) = absurd (omega (arith, none))

pub returns : goal.returns
returns c =
    let none : (length c.loop-name.name-iterator.a.rest.now ≡ 0) ⊎ (length c.loop-name.name-iterator.b.rest.now ≡ 0) = elim c.in-None.ensures.steps [
      | inl no_name ↦ inl no_name.1.0
      | inr no_number ↦ inr no_number.1.0
    ] in
    sym (ap (λ more. c.loop-name.files ++ more) (none-left c.loop-name.name-iterator.a.rest.now c.loop-name.name-iterator.b.rest.now none) ∙ append-nil c.loop-name.files) ∙ c.loop-name.invariant
