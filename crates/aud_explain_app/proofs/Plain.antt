-- Neither a summary's JSON nor a refused line's has a float.
use Rattle.std.proofs.Common.{◌≡◌, ℕ, Bool, true, false, ◌||◌, List, [], ◌∷◌, Option, Some, None, fold, refl, slice_get}
use Rattle.std.specs.Borrow.{Bor}
use Rattle.std.specs.Ordering.{nat_cmp, match_ordering}
use Rattle.std.specs.Cmp.Lexicographic.{slice_cmp}
use Rattle.std.specs.declared.cmp.Ordering.TheVariants.{Less, Equal, Greater}
use Rattle.serde_json.specs.Data.{Members, no_members, member, number, unsigned, put}
use Rattle.serde_json.specs.Written.{has_float, members_have_float}
use Rattle.aud_node.specs.Stream.{Text}
use Rattle.aud_input.specs.declared.place.FileLine.{FileLine}
use Rattle.aud_input.specs.declared.refusal.Refusal.{Refusal}
use Rattle.aud_explanation.specs.JsonValue.{text_or_null}
use Rattle.aud_explain_app.specs.declared.summary.causes.CausesTold.{CausesTold}
use Rattle.aud_explain_app.specs.declared.summary.Summary.{Summary}
use Rattle.aud_explain_app.specs.Summary.Causes.{cause_names, count_with}
use Rattle.aud_explain_app.specs.Summary.Json.{summary_data, with_cause, with_figures}
use Rattle.aud_explain_app.specs.RefusedLine.{header_data, json_data}

-- neither holds where one of both does not
or-parts : (a b : Bool) → (a || b) ≡ false → (a ≡ false) × (b ≡ false)
or-parts true b h = absurd (cc)
or-parts false b h = (refl, h)

-- one number more
number-put : (k : List ℕ) (n : ℕ) (ms : Members) → members_have_float ms ≡ false → members_have_float (put k (number (unsigned n)) ms) ≡ false
number-put k n no_members rest = refl
number-put k n (member l e ms) rest =
    let parts = or-parts (has_float e) (members_have_float ms) rest in
    let d = number (unsigned n) in
    elim (slice_cmp nat_cmp k l) as (λ o. members_have_float (match_ordering o (member k d (member l e ms)) (member l d ms) (member l e (put k d ms))) ≡ false) [
      | Less ↦ rest
      | Equal ↦ parts.1
      | Greater ↦ rw (parts.0, number-put k n ms parts.1) refl
    ]

-- more causes
causes-put : (told : List CausesTold) (names : List Text) (ms : Members) → members_have_float ms ≡ false → members_have_float (fold (with_cause told) ms names) ≡ false
causes-put told [] ms rest = rest
causes-put told (name ∷ names) ms rest = causes-put told names (put name (number (unsigned (count_with told (Some name)))) ms) (number-put name (count_with told (Some name)) ms rest)

-- more figures
figures-put : (figures : List (Bor Text × ℕ)) (ms : Members) → members_have_float ms ≡ false → members_have_float (with_figures figures ms) ≡ false
figures-put [] ms rest = rest
figures-put (f ∷ figures) ms rest = figures-put figures (put f.0.now (number (unsigned f.1)) ms) (number-put f.0.now f.1 ms rest)

pub summary-plain : (s : Summary) (told : List CausesTold) → has_float (summary_data s told) ≡ false
summary-plain s told = rw (causes-put told cause_names no_members refl, figures-put s.faults no_members refl) refl

text-plain : (text : Option Text) → has_float (text_or_null text) ≡ false
text-plain None = refl
text-plain (Some text) = refl

header-plain : (names : List Text) (header : Option ℕ) (at : Option FileLine) → has_float (header_data names header at) ≡ false
header-plain names None at = refl
header-plain names (Some line) None = refl
header-plain names (Some line) (Some at) = rw (text-plain (slice_get names at.file)) refl

pub refused-plain : (names : List Text) (r : Refusal) (help : List ℕ) → has_float (json_data names r help) ≡ false
refused-plain names r help = rw (text-plain (slice_get names r.at.file), header-plain names r.header r.header_at) refl
