-- What the steps of an index leave.
use Rattle.std.specs.Prelude.{◌≡◌, ℕ, ◌+◌, ◌^◌, ◌<◌, List, [], ◌++◌, length}
use Rattle.aud_reader.specs.Lines.{line_pieces}
use Rattle.aud_parts.specs.declared.tap_index.TapIndex.{TapIndex}
use Rattle.aud_parts.specs.declared.tap_index.tap_runs.Run.{Run}
use Rattle.aud_parts.specs.IndexSoFar.{Indexed, IsBegun, KeepsPlaces, PlacedLine, ReadSoFar, placed_lines, so_far, with_line, with_lines}

-- a line that stands where this run does
abbrev pub placed_at : Run → List ℕ → PlacedLine
placed_at line text = record { file = line.file; from = line.from; number = line.number; text = text }

-- a line was looked at, and nothing else has changed
pub record Looks (old new : TapIndex) (index : Indexed) : Type 0 where
  pub taps : so_far new ≡ index
  pub keeps : KeepsPlaces new.runs
  pub begun : new.begun ≡ old.begun
  pub file : new.file ≡ old.file
  pub number : new.number ≡ old.number

-- the line that has begun may end: what is counted stays below 2 to the 64th
pub record MayEnd (s : TapIndex) (text : List ℕ) : Type 0 where
  pub begun : IsBegun s.begun s.begun.from text
  pub bytes : s.begun.from + length text + 1 < 2 ^ 64
  pub lines : s.number + 1 < 2 ^ 64
  pub keeps : KeepsPlaces s.runs

-- the line that has begun
abbrev pub begun_line : TapIndex → List ℕ → PlacedLine
begun_line s text = record { file = s.file; from = s.begun.from; number = s.number; text = text }

-- the line has ended, and the next one has begun
pub record HasEnded (old new : TapIndex) (text : List ℕ) : Type 0 where
  pub taps : so_far new ≡ with_line (so_far old) (begun_line old text)
  pub keeps : KeepsPlaces new.runs
  pub begun : IsBegun new.begun (old.begun.from + length text + 1) []
  pub file : new.file ≡ old.file
  pub number : new.number ≡ old.number + 1

-- the last line of a file has ended, if there was one
pub record HasEndedLast (old new : TapIndex) (text : List ℕ) : Type 0 where
  pub taps : so_far new ≡ with_lines (so_far old) (placed_lines old.file old.begun.from old.number (line_pieces text))
  pub keeps : KeepsPlaces new.runs
  pub file : new.file ≡ old.file
  pub number : new.number ≡ old.number + length (line_pieces text)

-- a piece is read up to here
pub record HasFed (s : TapIndex) (files : List (List ℕ)) (bytes piece left : List ℕ) : Type 0 where
  pub done : List ℕ
  pub cut : piece ≡ done ++ left
  pub read : ReadSoFar s files (bytes ++ done)
