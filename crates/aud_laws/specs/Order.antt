-- Lines in another order: each tap's lines stand in the order that they had, and the taps are first named in the order
-- that they were.
use Rattle.std.specs.Prelude.{◌≡◌, ℕ, List, [], ◌∷◌, ◌++◌, map, filter, Bool, false, if◌then◌else◌, Result, Ok, Err}
use Rattle.std.specs.List.{list_any}
use Rattle.std.specs.Option.{option_map_or}
use Rattle.aud_tap.specs.Forms.{is_text}
use Rattle.aud_reader.specs.declared.line.Line.{Line}
use Rattle.aud_reader.specs.Record.{cut_at_blank}

-- what stands before the first blank of a line, and the whole line where there is none: the name of the line's tap, if
-- the line is read
abbrev pub first_word : List ℕ → List ℕ
first_word line = option_map_or (λ parts. parts.0) (cut_at_blank line) line

-- a line that has bytes begins with this name
abbrev pub is_line_of : List ℕ → List ℕ → Bool
is_line_of name [] = false
is_line_of name (b ∷ line) = is_text name (first_word (b ∷ line))

-- the lines that begin with this name, in their order
abbrev pub lines_of_tap : List ℕ → List (List ℕ) → List (List ℕ)
lines_of_tap name lines = filter (is_line_of name) lines

-- the name is one of these
abbrev pub is_known : List (List ℕ) → List ℕ → Bool
is_known names name = list_any (is_text name) names

-- the names that these lines are the first to begin with, in that order, where the known names were there before; lines
-- without bytes have none
abbrev pub names_after : List (List ℕ) → List (List ℕ) → List (List ℕ)
names_after known [] = []
names_after known ([] ∷ lines) = names_after known lines
names_after known ((b ∷ line) ∷ lines) =
    if is_known known (first_word (b ∷ line)) then names_after known lines
    else first_word (b ∷ line) ∷ names_after (known ++ first_word (b ∷ line) ∷ []) lines

-- the names that lines begin with, each once, in the order in which they first come
abbrev pub names_in : List (List ℕ) → List (List ℕ)
names_in lines = names_after [] lines

-- the same lines but for their order: for each name its lines are the same, in the same order, and the names first come
-- in the same order
pub record AreSameButForOrder (lines others : List (List ℕ)) : Type 0 where
  pub each : (name : List ℕ) → lines_of_tap name lines ≡ lines_of_tap name others
  pub names : names_in lines ≡ names_in others

-- the bytes of lines; their numbers tell nothing but where a refusal is
abbrev pub texts : List Line → List (List ℕ)
texts lines = map (λ line. line.bytes) lines

-- both are refused, or both are read, as the same
abbrev pub AreReadAlike : {A E : Type 0} → Result A E → Result A E → Type 0
AreReadAlike (Ok one) (Ok other) = one ≡ other
AreReadAlike (Ok one) (Err other) = ⊥
AreReadAlike (Err one) (Ok other) = ⊥
AreReadAlike (Err one) (Err other) = Unit {0}
