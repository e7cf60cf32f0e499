-- The lines of a tap, by the bytes that they stand in.
use Rattle.std.specs.Prelude.{◌≡◌, ℕ, ◌+◌, ◌^◌, ◌<◌, ◌≤◌, List, [], ◌∷◌, ◌++◌, length, get_or, slice_get, Some, if◌then◌else◌}
use Rattle.std.specs.List.{AllByRecursion, flat_map}
use Rattle.std.specs.Option.{option_map}
use Rattle.aud_base.specs.Lists.{between}
use Rattle.aud_tap.specs.Limits.{max_line}
use Rattle.aud_node.specs.Lists.{is_empty}
use Rattle.aud_reader.specs.declared.line.Line.{Line}
use Rattle.aud_reader.specs.Lines.{line_pieces, without_return}
use Rattle.aud_parts.specs.declared.tap_index.tap_runs.Run.{Run}

-- the line of this number and text, if it has bytes
abbrev pub line_with_bytes : ℕ → List ℕ → List Line
line_with_bytes n text =
    if is_empty (without_return text) then []
    else (record { number = n; bytes = without_return text } ∷ [])

-- those of the lines of these texts that have bytes, where the first has the number n
abbrev pub lines_with_bytes : ℕ → List (List ℕ) → List Line
lines_with_bytes n [] = []
lines_with_bytes n (text ∷ texts) = line_with_bytes n text ++ lines_with_bytes (n + 1) texts

-- a tap by its name, with the runs of its lines
pub record TapRuns : Type 0 where
  pub name : List ℕ
  pub runs : List Run

-- the bytes of a run of one of these files; files and bytes count from 0
abbrev pub run_bytes : List (List ℕ) → Run → List ℕ
run_bytes files run = between (get_or files run.file []) run.from run.to

-- the lines of a run that have bytes
abbrev pub run_lines : List (List ℕ) → Run → List Line
run_lines files run = lines_with_bytes run.number (line_pieces (run_bytes files run))

-- the lines of runs, one run's after the other's
abbrev pub runs_lines : List (List ℕ) → List Run → List Line
runs_lines files runs = flat_map (run_lines files) runs

-- the line with the newline that ends it
abbrev pub ended : Line → List ℕ
ended line = line.bytes ++ 10 ∷ []

-- the lines of the run may be read: they are counted below 2 to the 64th, and none of them is too long
pub record IsReadable (files : List (List ℕ)) (run : Run) : Type 0 where
  pub counted : run.number + length (run_bytes files run) < 2 ^ 64
  pub short : AllByRecursion (λ (line : Line). length line.bytes ≤ max_line) (run_lines files run)

-- the first line of the run has bytes
abbrev pub BeginsWithBytes : List (List ℕ) → Run → Type 0
BeginsWithBytes files run = option_map (λ (line : Line). line.number) (slice_get (run_lines files run) 0) ≡ Some run.number

-- the lines of the tap may be read again, run after run
pub record MayBeRead (files : List (List ℕ)) (tap : TapRuns) : Type 0 where
  pub readable : AllByRecursion (IsReadable files) tap.runs
  pub begun : AllByRecursion (BeginsWithBytes files) tap.runs
