-- Long lists: of more than 200 elements the first 100 and the last 100 are shown.
use Rattle.std.specs.Prelude.{ℕ, ◌+◌, ◌-◌, ◌==◌, List, [], ◌++◌, codes, decimal, drop, flat_map, length, take, if◌then◌else◌}

-- how many of them are left out
unfoldable pub left_out : {A : Type 0} → List A → ℕ
left_out xs = length xs - 200

-- those that are shown before these
unfoldable pub first_shown : {A : Type 0} → List A → List A
first_shown xs = take 100 xs

-- those that are shown after these
unfoldable pub last_shown : {A : Type 0} → List A → List A
last_shown xs = drop (100 + (length xs - 200)) xs

-- all that are shown
abbrev pub all_shown : {A : Type 0} → List A → List A
all_shown xs = first_shown xs ++ last_shown xs

-- how many are left out
abbrev pub more_words : ℕ → List ℕ
more_words n = codes ".. " ++ decimal n ++ codes " more .."

-- the line that says it, where some are
abbrev pub more_line : ℕ → List ℕ
more_line n = if n == 0 then [] else codes "    " ++ more_words n ++ codes "\n"

-- the lines of each that is shown, and one that says how many are left out, where some are
abbrev pub long_text : {A : Type 0} → (A → List ℕ) → List A → List ℕ
long_text lines_of xs = flat_map lines_of (first_shown xs) ++ more_line (left_out xs) ++ flat_map lines_of (last_shown xs)
