-- Which line of which file a line of several files is.
use Rattle.std.specs.Prelude.{ℕ, ◌+◌, ◌-◌, nat_le, List, [], ◌∷◌, if◌then◌else◌}
use Rattle.aud_input.specs.declared.place.FileLine.{FileLine}

-- the same line, where so many files come before
abbrev pub after_files : ℕ → FileLine → FileLine
after_files files found = record { file = files + found.file; line = found.line }

-- the line of a file that has this number in all: it is the first file's where that has as many lines, and else one of
-- those after it. The lines of each file but the last are counted
abbrev pub file_line : List ℕ → ℕ → FileLine
file_line [] number = record { file = 0; line = number }
file_line (count ∷ counts) number = if nat_le number count then record { file = 0; line = number } else after_files 1 (file_line counts (number - count))
