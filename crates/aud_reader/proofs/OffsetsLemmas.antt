-- Offsets that ascend by their ranks.
use Rattle.std.proofs.Common.{◌≡◌, ◌<◌, ◌≤◌, ◌||◌, ℕ, true, false, List, [], ◌∷◌, ◌++◌, refl, sym, ap, ◌∙◌, arith}
use Rattle.std.specs.List.{list_any}
use Rattle.std.proofs.Math.Bool.{or-false}
use Rattle.aud_base.proofs.SameText.{same_text}
use Rattle.aud_tap.specs.Forms.{is_text}
use Rattle.aud_tap.specs.Rank.{rank}
use Rattle.aud_reader.proofs.TextsLemmas.{any-push}

-- an offset of a greater rank than all others is put in: none has a greater one than it
pub ascending-put : (last : ℕ) (all : List (List ℕ)) (off : List ℕ) → ((text : List ℕ) → list_any (is_text text) all ≡ true → rank text ≤ last) → last < rank off
    → (text : List ℕ) → list_any (is_text text) (all ++ off ∷ []) ≡ true → rank text ≤ rank off
ascending-put last all off held more text any =
    elim (is_text text off) as (λ b. is_text text off ≡ b → rank text ≤ rank off) [
      | true ↦ λ e. omega (arith, ap rank (same_text text off e))
      | false ↦ λ e.
          let before : list_any (is_text text) all ≡ true = sym (or-false (list_any (is_text text) all)) ∙ ap (λ b. list_any (is_text text) all || b) (sym e) ∙ sym (any-push text off all) ∙ any in
          omega (arith, held text before, more)
    ] refl
