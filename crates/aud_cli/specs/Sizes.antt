-- How many parts are wanted, or how large.
use Rattle.std.specs.Prelude.{ℕ, ◌-◌, ◌*◌, ◌^◌, ◌≤◌, List, length, take, slice_index, Bool, ◌&&◌, ◌==◌, nat_le, nat_lt, Option, Some, None, option_map, option_and_then, if◌then◌else◌}
use Rattle.std.specs.Str.{all_ascii_digits}
use Rattle.std.specs.Str.Parse.{digits_value, without_leading_plus}
use Rattle.aud_cli.specs.declared.split_options.PartsWanted.{PartsWanted}
use Rattle.aud_cli.specs.declared.split_options.PartsWanted.TheVariants.{Number, Bytes}

-- the number that these digits write, where it is `least` to `most`
abbrev pub number_written : ℕ → ℕ → List ℕ → Option ℕ
number_written least most digits =
    let number = digits_value 10 digits in
    if all_ascii_digits digits && nat_lt 0 (length digits) && nat_le least number && nat_le number most then Some number else None

-- the number of this text, `least` to `most`: decimal digits, and a plus may stand before them
abbrev pub number_named : ℕ → ℕ → List ℕ → Option ℕ
number_named least most text = number_written least most (without_leading_plus text)

-- what --parts says with this text: 1 to 9999
abbrev pub parts_named : List ℕ → Option PartsWanted
parts_named text = option_map Number (number_named 1 9999 text)

-- the text ends in this byte
abbrev pub ends_in : ℕ → List ℕ → Bool
ends_in b text = nat_lt 0 (length text) && (slice_index text (length text - 1) == b)

-- the text before the letter of a unit, where it ends in it
abbrev pub cut_unit : ℕ → List ℕ → Option (List ℕ)
cut_unit unit text = if ends_in unit text then Some (take (length text - 1) text) else None

-- a number that 64 bits hold
abbrev pub fitting : ℕ → Option ℕ
fitting n = if nat_lt n (2 ^ 64) then Some n else None

-- so many of this unit
abbrev pub units : ℕ → List ℕ → Option ℕ
units unit text = option_and_then (λ number. fitting (number * unit)) (number_named 1 (2 ^ 64 - 1) text)

-- so many of this unit, if the text ends in its letter; else what another unit gives
abbrev pub units_or : Option ℕ → ℕ → Option (List ℕ) → Option ℕ
units_or other unit None = other
units_or other unit (Some text) = units unit text

-- the bytes of this text: a number of them, or of K, M or G, which are 1024, 1024 K and 1024 M
abbrev pub bytes_named : List ℕ → Option ℕ
bytes_named text =
    units_or
    (units_or
    (units_or (units 1 text) 1073741824 (cut_unit 71 text))
    1048576 (cut_unit 77 text))
    1024 (cut_unit 75 text)

-- what --bytes says with this text
abbrev pub size_named : List ℕ → Option PartsWanted
size_named text = option_map Bytes (bytes_named text)

-- a number of parts is 1 to 9999
abbrev pub IsWithin : PartsWanted → Type 0
IsWithin (Number n) = (1 ≤ n) × (n ≤ 9999)
IsWithin (Bytes n) = Unit {0}
