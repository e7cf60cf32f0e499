-- The records of the taps, and the lines that they stand on.
use Rattle.std.specs.Prelude.{◌≡◌, ℕ, ◌≤◌, List, length, slice_get, Some, None, Ok}
use Rattle.aud_tap.specs.declared.records.Rec.{Rec}
use Rattle.aud_tap.specs.declared.taps.Tap.{Tap}
use Rattle.aud_reader.specs.declared.line.Line.{Line}
use Rattle.aud_reader.specs.Lines.{line_pieces, lines_of}
use Rattle.aud_reader.specs.Record.{line_record}
use Rattle.aud_reader.specs.Bundle.{taps_of}
use Rattle.aud_reader.specs.OwnLines.{recs_in}
use Rattle.aud_input.specs.TapLines.{max_numbered, tap_lines_of, kept_line, first_kept, line_of_record, named_lines, numbers_of}

-- the record is that of the line with this number, which begins with this name
pub record StandsOn (lines : List Line) (name : List ℕ) (rec : Rec) (number : ℕ) : Type 0 where
  pub line : Line
  pub place : ℕ
  pub is : slice_get lines place ≡ Some line
  pub numbered : line.number ≡ number
  pub reads : line_record line.bytes ≡ Ok (name, rec)

-- a line is kept for a record of a tap, and the record stands on that line
pub record HasItsLine (text : List ℕ) (tap rec_number : ℕ) (name : List ℕ) (rec : Rec) : Type 0 where
  pub number : ℕ
  pub kept : kept_line (tap_lines_of text) tap rec_number ≡ Some number
  pub stands : StandsOn (lines_of text).lines name rec number

-- in an input of no more than 4,294,967,294 lines that is read as taps, a line is kept for each record of each tap, and
-- the record is that of its line
abbrev pub RecordsHaveTheirLines : Type 0
RecordsHaveTheirLines = (text : List ℕ) (taps : List Tap) → (lines_of text).fault ≡ None → taps_of (lines_of text).lines ≡ Ok taps → length (line_pieces text) ≤ max_numbered
    → (place number : ℕ) (tap : Tap) (rec : Rec) → slice_get taps place ≡ Some tap → slice_get (recs_in tap.records) number ≡ Some rec
    → HasItsLine text place number tap.name rec

-- the lines that are kept are those by the definition: of the lines that begin with the tap's name, the one after the
-- header's and those of the records before it
abbrev pub KeptAreLinesOfRecords : Type 0
KeptAreLinesOfRecords = (text : List ℕ) (tap number : ℕ) → kept_line (tap_lines_of text) tap number ≡ line_of_record text tap number

-- the line that is kept as the first of a name is the first that begins with it
abbrev pub FirstKeptIsFirst : Type 0
FirstKeptIsFirst = (text name : List ℕ) → first_kept (tap_lines_of text) name ≡ slice_get (numbers_of name (named_lines text)) 0
