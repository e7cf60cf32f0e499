-- Lines, words and numbers of a text.
use Rattle.std.specs.Prelude.{ℕ, ◌+◌, ◌-◌, ◌*◌, ◌^◌, ◌==◌, ◌&&◌, nat_le, nat_lt, List, [], ◌∷◌, length, take, drop, if◌then◌else◌, Option, Some, None, option_map, option_and_then}
use Rattle.std.specs.Str.{bytes_eq}

-- what stands before the first such byte, and what follows it
abbrev pub cut_at : ℕ → List ℕ → Option (List ℕ × List ℕ)
cut_at byte [] = None
cut_at byte (b ∷ text) =
    if b == byte then Some ([], text)
    else option_map (λ (cut : List ℕ × List ℕ). (b ∷ cut.0, cut.1)) (cut_at byte text)

-- the byte in front of the first of these lines; without a line, no newline ends it
abbrev pub onto_line : ℕ → List (List ℕ) → Option (List (List ℕ))
onto_line b [] = None
onto_line b (line ∷ lines) = Some ((b ∷ line) ∷ lines)

-- the lines, each without the newline that ends it; none where something follows the last newline
abbrev pub whole_lines : List ℕ → Option (List (List ℕ))
whole_lines [] = Some []
whole_lines (b ∷ text) =
    if b == 10 then option_map (λ (lines : List (List ℕ)). [] ∷ lines) (whole_lines text)
    else option_and_then (onto_line b) (whole_lines text)

-- the number with this digit after it, below 2 to the 64th
abbrev pub with_digit : ℕ → ℕ → Option ℕ
with_digit number b =
    if nat_le 48 b && nat_le b 57 && nat_lt (number * 10 + (b - 48)) (2 ^ 64)
    then Some (number * 10 + (b - 48)) else None

-- the number with these digits after it
abbrev pub number_after : ℕ → List ℕ → Option ℕ
number_after number [] = Some number
number_after number (b ∷ digits) =
    option_and_then (λ more. number_after more digits) (with_digit number b)

-- the number that decimal digits write, below 2 to the 64th
abbrev pub number_in : List ℕ → Option ℕ
number_in [] = None
number_in (b ∷ digits) = number_after 0 (b ∷ digits)

-- what follows these bytes, where the text begins with them
abbrev pub after_prefix : List ℕ → List ℕ → Option (List ℕ)
after_prefix prefix text =
    if bytes_eq (take (length prefix) text) prefix then Some (drop (length prefix) text) else None
