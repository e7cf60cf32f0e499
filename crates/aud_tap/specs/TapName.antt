-- The name of a tap.
use Rattle.std.specs.Prelude.{ℕ, ◌==◌, ◌&&◌, ◌||◌, nat_le, List, Bool}
use Rattle.std.specs.List.{list_all}
use Rattle.aud_tap.specs.Limits.{fits, max_name}

-- a digit, a letter of ASCII, `_`, `.` or `-`
abbrev pub is_name_byte : ℕ → Bool
is_name_byte b =
    (nat_le 48 b && nat_le b 57) || (nat_le 65 b && nat_le b 90) || (nat_le 97 b && nat_le b 122)
    || b == 95 || b == 46 || b == 45

-- 1 to 32 such bytes
abbrev pub is_tap_name : List ℕ → Bool
is_tap_name t = fits max_name t && list_all is_name_byte t
