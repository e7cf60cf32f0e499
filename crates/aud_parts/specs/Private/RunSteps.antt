-- What the pieces of runs have that are read one after the other.
use Rattle.std.specs.Prelude.{◌≡◌, ℕ, ◌+◌, ◌-◌, List, [], ◌∷◌, ◌++◌, take, nat_le, false, ◌⊎◌, if◌then◌else◌}
use Rattle.std.specs.List.{AllByRecursion}
use Rattle.aud_reader.specs.declared.line.Line.{Line}
use Rattle.aud_reader.specs.Lines.{has_newline}
use Rattle.aud_parts.specs.declared.tap_index.tap_runs.Run.{Run}
use Rattle.aud_parts.specs.TapRuns.{IsReadable, runs_lines}

-- the run up to so many bytes
abbrev pub front_run : ℕ → Run → Run
front_run most run = if nat_le (run.to - run.from) most then run else (record run { to = run.from + most })

-- so many of the bytes end with a newline, or there is none among all
abbrev pub EndsLine : List ℕ → ℕ → Type 0
EndsLine bytes end = ((front : List ℕ) × (take end bytes ≡ front ++ 10 ∷ [])) ⊎ (has_newline bytes ≡ false)

-- these lines, and then those of the runs that are left, are those of the runs before
pub record GivesLines (files : List (List ℕ)) (old : List Run) (lines : List Line) (new : List Run) : Type 0 where
  pub same : runs_lines files old ≡ lines ++ runs_lines files new
  pub readable : AllByRecursion (IsReadable files) new

-- how much there is to read: the bytes of the runs, and each run once more
abbrev pub runs_size : List Run → ℕ
runs_size [] = 0
runs_size (run ∷ runs) = (run.to - run.from) + 1 + runs_size runs

-- the bytes up to the first newline, or all where there is none
pub record IsFirstText (bytes text : List ℕ) : Type 0 where
  pub whole : has_newline text ≡ false
  pub cut : ((others : List ℕ) × (bytes ≡ text ++ 10 ∷ others)) ⊎ (bytes ≡ text)

-- the first text of the bytes is that of all
abbrev pub HasFirstText : List ℕ → List ℕ → Type 0
HasFirstText all bytes = (text : List ℕ) → IsFirstText bytes text → IsFirstText all text
