-- The lines of a bundle that was posted.
use Rattle.std.specs.Prelude.{ℕ, ◌+◌, List, [], ◌∷◌, ◌++◌, map}
use Rattle.std.specs.List.{flat_map}
use Rattle.aud_reader.specs.declared.line.Line.{Line}
use Rattle.aud_book.specs.History.{PostedTap}

-- a tap's lines in a bundle: its name, a blank, and the line that was posted
abbrev pub named_line : List ℕ → List ℕ → List ℕ
named_line name line = name ++ 32 ∷ line

abbrev pub named_lines : PostedTap → List (List ℕ)
named_lines t = map (named_line t.name) t.lines

-- these lines, numbered from the first number on
abbrev pub numbered : ℕ → List (List ℕ) → List Line
numbered n [] = []
numbered n (l ∷ ls) = record { number = n; bytes = l } ∷ numbered (n + 1) ls

-- the bundle of the taps: their lines tap after tap, counted from 1
abbrev pub lines_of_taps : List PostedTap → List Line
lines_of_taps taps = numbered 1 (flat_map named_lines taps)
