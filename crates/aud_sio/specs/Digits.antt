-- The decimal digits at the front of a text.
use Rattle.std.specs.Prelude.{ℕ, List, drop, take_while}
use Rattle.std.specs.List.{prefix_len}
use Rattle.std.specs.Char.{is_ascii_digit}
use Rattle.std.specs.Str.Parse.{digits_value}

-- how many digits stand at the front
abbrev pub digit_count : List ℕ → ℕ
digit_count text = prefix_len is_ascii_digit text

-- the number that they write
abbrev pub leading_number : List ℕ → ℕ
leading_number text = digits_value 10 (take_while is_ascii_digit text)

-- what follows them
abbrev pub after_digits : List ℕ → List ℕ
after_digits text = drop (digit_count text) text
