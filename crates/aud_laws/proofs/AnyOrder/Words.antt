-- The name that a line begins with, and the names that lines begin with.
use Rattle.std.proofs.Common.{◌≡◌, ℕ, List, [], ◌∷◌, ◌++◌, length, true, false, cond, nat_le, Ok, ap, ◌∙◌}
use Rattle.std.proofs.lemmas.Bool.{or_left}
use Rattle.std.proofs.lemmas.List.Folds.{list_any-append}
use Rattle.serde_json.specs.Data.{Data}
use Rattle.aud_base.specs.Steps.{need}
use Rattle.aud_base.proofs.StepLemmas.{same-ok, part-of, guard-ok}
use Rattle.aud_tap.specs.Forms.{is_text}
use Rattle.aud_tap.specs.Limits.{max_line}
use Rattle.aud_tap.specs.TapName.{is_tap_name}
use Rattle.aud_reader.specs.declared.fault.InputCode.TheVariants.{LineTooLong, NoTapName}
use Rattle.aud_reader.specs.Record.{cut_at_blank, json_of, opened_line}
use Rattle.aud_reader.proofs.Lists.{need-ok}
use Rattle.aud_laws.specs.Order.{first_word, is_known, names_after}

-- a line that opens begins with its tap's name
pub opened-first_word : (line name : List ℕ) (d : Data) → opened_line line ≡ Ok (name, d) → first_word line ≡ name
unfolding opened_line
opened-first_word line name d e =
    let fits = guard-ok LineTooLong (nat_le (length line) max_line) _ (name, d) e in
    let parts = part-of (need NoTapName (cut_at_blank line)) _ (name, d) fits.1 in
    let named = guard-ok NoTapName (is_tap_name parts.0.0) _ (name, d) parts.2 in
    let value = part-of (json_of parts.0.1) _ (name, d) named.1 in
    rw (need-ok NoTapName parts.0 (cut_at_blank line) parts.1) (ap (λ (p : List ℕ × Data). p.0) (same-ok _ _ value.2))

-- ---- known names

-- the known names, with this one
abbrev pub with_name : List (List ℕ) → List ℕ → List (List ℕ)
with_name known name = cond (is_known known name) known (known ++ name ∷ [])

-- a name that is known stays so
pub among-more : (known : List (List ℕ)) (other name : List ℕ) → is_known known name ≡ true → is_known (known ++ other ∷ []) name ≡ true
among-more known other name is = list_any-append (is_text name) known (other ∷ []) ∙ or_left _ _ is

-- ---- the names that come first

module _ (known : List (List ℕ)) (b : ℕ) (bs : List ℕ) (lines : List (List ℕ)) where
  -- a line of a known name is passed over
  pub after-known : is_known known (first_word (b ∷ bs)) ≡ true → names_after known ((b ∷ bs) ∷ lines) ≡ names_after known lines
  after-known is = ap (λ v. cond v (names_after known lines) (first_word (b ∷ bs) ∷ names_after (known ++ first_word (b ∷ bs) ∷ []) lines)) is

  -- a line of a new name has it first
  pub after-new : is_known known (first_word (b ∷ bs)) ≡ false
      → names_after known ((b ∷ bs) ∷ lines) ≡ first_word (b ∷ bs) ∷ names_after (known ++ first_word (b ∷ bs) ∷ []) lines
  after-new is = ap (λ v. cond v (names_after known lines) (first_word (b ∷ bs) ∷ names_after (known ++ first_word (b ∷ bs) ∷ []) lines)) is
