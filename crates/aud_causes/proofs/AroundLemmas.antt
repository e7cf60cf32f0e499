-- What is shown around a byte, character by character.
use Rattle.std.proofs.Common.{◌≡◌, ℕ, ◌+◌, ◌-◌, ◌<◌, ◌≤◌, List, [], ◌++◌, length, chars, encode_utf8, if◌then◌else◌, IsUtf8, refl, ap, ◌∙◌, arith}
use Rattle.std.specs.Prelude.{nat_le}
use Rattle.std.proofs.lemmas.Bool.Decides.{nat_tests}
use Rattle.std.proofs.lemmas.List.{nil_from_length}
use Rattle.std.proofs.lemmas.Str.{chars-nil, chars_past_char}
use Rattle.aud_causes.specs.Texts.{around, near, points, shown_from}

pub around_empty : (at place : ℕ) (text : List ℕ) → length text ≡ 0 → around at place text ≡ []
unfolding around
around_empty at place text none = rw (ap chars (nil_from_length text none) ∙ chars-nil) refl

around_step : (at place : ℕ) (text rest : List ℕ) (c : ℕ) → IsUtf8 text → text ≡ encode_utf8 c ++ rest
    → around at place text
    ≡ (if nat_le near (place - at) then points else shown_from (at - near) place c ++ around at (place + length (encode_utf8 c)) rest)
unfolding around
around_step at place text rest c utf8 parts = rw (chars_past_char text rest c utf8 parts) refl

-- where the first character begins behind, and where it doesn't
pub around_behind : (at place : ℕ) (text rest : List ℕ) (c : ℕ) → IsUtf8 text → text ≡ encode_utf8 c ++ rest → near ≤ place - at
    → around at place text ≡ points
around_behind at place text rest c utf8 parts past = around_step at place text rest c utf8 parts ∙ grind (arith, nat_tests)

pub around_next : (at place : ℕ) (text rest : List ℕ) (c : ℕ) → IsUtf8 text → text ≡ encode_utf8 c ++ rest → place - at < near
    → around at place text ≡ shown_from (at - near) place c ++ around at (place + length (encode_utf8 c)) rest
around_next at place text rest c utf8 parts below = around_step at place text rest c utf8 parts ∙ grind (arith, nat_tests)
