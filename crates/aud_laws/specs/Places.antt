-- In which of several files a line stands.
use Rattle.std.specs.Prelude.{◌≡◌, ℕ, ◌-◌, ◌≤◌, List, length, map, Some, slice_get}
use Rattle.aud_reader.specs.Lines.{line_pieces}
use Rattle.aud_input.specs.InputFiles.{input_files, place_in}
use Rattle.aud_input.specs.Sources.{joined}

-- how many lines each file has
abbrev pub lines_of_each : List (List ℕ) → List ℕ
lines_of_each files = map (λ file. length (line_pieces file)) files

-- the line of this number in all is that line of a file of this name, by its number there
pub record StandsIn (names files : List (List ℕ)) (number : ℕ) (name : List ℕ) (own : ℕ) : Type 0 where
  pub place : ℕ
  pub file : List ℕ
  pub name_is : slice_get names place ≡ Some name
  pub file_is : slice_get files place ≡ Some file
  pub line_is : slice_get (line_pieces file) (own - 1) ≡ slice_get (line_pieces (joined files)) (number - 1)

-- where a line of files that are read as one input is told to stand, it does
abbrev pub LinesStandWhereTold : Type 0
LinesStandWhereTold =
    (names files : List (List ℕ)) (number : ℕ) (name : List ℕ) (own : ℕ) → 1 ≤ number
    → place_in (input_files names (lines_of_each files)) number ≡ Some (name, own) → StandsIn names files number name own
