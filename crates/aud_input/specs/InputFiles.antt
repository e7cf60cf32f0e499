-- The files of an input, and which line of which of them a line is.
use Rattle.std.specs.Prelude.{ℕ, ◌-◌, nat_le, nat_lt, List, [], ◌∷◌, length, Option, Some, None, if◌then◌else◌}
use Rattle.aud_input.specs.declared.input_file.InputFile.{InputFile}

-- the files of these names, of which each has so many lines
abbrev pub input_files : List (List ℕ) → List ℕ → List InputFile
input_files (name ∷ names) (count ∷ counts) = record { name = name; lines = count } ∷ input_files names counts
input_files names counts = []

-- the name of the file in which the line of this number stands, and its number there; none past the last line
abbrev pub place_in : List InputFile → ℕ → Option (List ℕ × ℕ)
place_in [] number = None
place_in (file ∷ files) number = if nat_le number file.lines then Some (file.name, number) else place_in files (number - file.lines)

-- the same where there are several files
abbrev pub place_told : List InputFile → ℕ → Option (List ℕ × ℕ)
place_told files number = if nat_lt (length files) 2 then None else place_in files number
