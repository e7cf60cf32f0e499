-- A tap's name is text.
use Rattle.std.proofs.Common.{◌≡◌, ℕ, zero, suc, ◌<◌, List, [], ◌∷◌, true, false, refl, arith}
use Rattle.std.proofs.lemmas.Bool.{and_parts}
use Rattle.std.proofs.lemmas.Bool.Decides.{nat_tests}
use Rattle.std.specs.List.{list_all}
use Rattle.std.specs.Str.{IsAscii, IsUtf8}
use Rattle.std.proofs.lemmas.Str.{IsUtf8-from_ascii}
use Rattle.aud_tap.specs.Limits.{fits, max_name}
use Rattle.aud_tap.specs.TapName.{is_name_byte, is_tap_name}

-- a byte that a tap's name may have is ASCII
name_byte-ascii : (b : ℕ) → is_name_byte b ≡ true → b < 128
name_byte-ascii b h = grind (arith, nat_tests)

-- bytes that a tap's name may have are ASCII, all of them
name-ascii : (t : List ℕ) → list_all is_name_byte t ≡ true → IsAscii t
name-ascii [] h i = omega arith
name-ascii (b ∷ t) h zero = name_byte-ascii b (and_parts (is_name_byte b) (list_all is_name_byte t) h).0
name-ascii (b ∷ t) h (suc i) = name-ascii t (and_parts (is_name_byte b) (list_all is_name_byte t) h).1 i

-- a tap's name is UTF-8, so it can be kept as a string
pub tap_name-utf8 : (t : List ℕ) → is_tap_name t ≡ true → IsUtf8 t
tap_name-utf8 t h = IsUtf8-from_ascii t (name-ascii t (and_parts (fits max_name t) (list_all is_name_byte t) h).1)

-- bytes that aren't UTF-8 name no tap
pub not_utf8-not_name : (t : List ℕ) → ¬ IsUtf8 t → is_tap_name t ≡ false
not_utf8-not_name t h = elim (is_tap_name t) as (λ b. is_tap_name t ≡ b → b ≡ false) [
  | true ↦ λ e. absurd (h (tap_name-utf8 t e))
  | false ↦ λ e. refl
] refl
