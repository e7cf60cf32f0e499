-- An order of offsets.
use Rattle.std.specs.Prelude.{ℕ, ◌+◌, ◌*◌, ◌^◌, ◌%◌, ◌==◌, List, if◌then◌else◌}
use Rattle.std.specs.List.{fold}

-- two numbers, after one byte more: a digit goes on with the second, and a hyphen begins it anew
abbrev pub after_byte : ℕ × ℕ → ℕ → ℕ × ℕ
after_byte (high, low) b = if b == 45 then (low, 0) else (high, (low * 10 % 2 ^ 64 + b % 16) % 2 ^ 64)

-- the two as one, of which the first counts more
abbrev pub number_of : ℕ × ℕ → ℕ
number_of (high, low) = high * 2 ^ 64 + low

-- a number for a text: of an offset such as `1700000000000-5` one that grows as a server's offsets do
unfoldable pub rank : List ℕ → ℕ
rank text = number_of (fold after_byte (0, 0) text)
