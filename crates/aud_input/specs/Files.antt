-- The files of an input, by what their readers have left, and what is read of them.
use Rattle.std.specs.Prelude.{◌≡◌, ℕ, ◌-◌, ◌<◌, nat_lt, List, [], ◌∷◌, length, map, sum_by, slice_get, if◌then◌else◌, Option, Some, None, option_map, IfSome, Result, Ok, Err}
use Rattle.aud_tap.specs.declared.taps.Tap.{Tap}
use Rattle.aud_reader.specs.declared.fault.InputCode.{InputCode}
use Rattle.aud_reader.specs.declared.fault.InputCode.TheVariants.{LineTooLong, SecondStream}
use Rattle.aud_reader.specs.declared.fault.ReadFault.{ReadFault}
use Rattle.aud_reader.specs.declared.fault.ReadFault.TheVariants.{Input}
use Rattle.aud_reader.specs.declared.line.Line.{Line}
use Rattle.aud_reader.specs.Lines.{line_pieces, without_return}
use Rattle.aud_input.specs.declared.input.Layout.TheVariants.{Bundle}
use Rattle.aud_input.specs.Input.{InputSeen, input_of}
use Rattle.aud_input.specs.Sources.{joined}
use Rattle.aud_input.specs.TapLines.{TapLines, first_like, tap_lines_of}
use Rattle.aud_input.specs.declared.reading.Recorded.{Recorded}
use Rattle.aud_input.specs.declared.reading.Size.{Size}
use Rattle.aud_input.specs.declared.reading.ReadingFault.{ReadingFault}
use Rattle.aud_input.specs.declared.reading.ReadingFault.TheVariants.{Refused, Unread, Memory}
use Rattle.aud_input.specs.declared.refusal.Refusal.{Refusal}
use Rattle.aud_input.specs.declared.place.FileLine.{FileLine}
use Rattle.aud_input.specs.FileLine.{file_line}

-- the bytes of each file are those that its reader has left, where the reader tells them
abbrev pub AreTold : List (Option (List ℕ)) → List (List ℕ) → Type 0
AreTold [] [] = Unit {0}
AreTold (left ∷ lefts) (file ∷ files) = IfSome left (λ told. file ≡ told) × AreTold lefts files
AreTold lefts files = ⊥

-- how many lines each file but the last has
abbrev pub line_counts : List (List ℕ) → List ℕ
line_counts [] = []
line_counts (file ∷ []) = []
line_counts (file ∷ next ∷ files) = length (line_pieces file) ∷ line_counts (next ∷ files)

-- the taps of what was read, or the first refused line
abbrev pub taps_read : Result InputSeen ReadFault → Result (List Tap) ReadFault
taps_read (Ok input) = Ok input.taps
taps_read (Err fault) = Err fault

-- how many lines and how many bytes the files have
abbrev pub size_of : List (List ℕ) → Size
size_of files = record { lines = sum_by (λ file. length (line_pieces file)) files; bytes = sum_by (λ file. length file) files }

-- of files that are read as one input: the taps are those of its bundle, the lines those of their records, the size that
-- of the files, and the counts those of the lines of each
pub record AreRecorded (lefts : List (Option (List ℕ))) (read : Recorded) : Type 0 where
  pub files : List (List ℕ)
  pub told : AreTold lefts files
  pub taps : taps_read (input_of Bundle (joined files)) ≡ Ok read.taps
  pub lines : tap_lines_of (joined files) ≡ read.lines
  pub size : read.size ≡ size_of files
  pub counts : read.counts.items ≡ map (λ file. length (line_pieces file)) files

-- what is told of a line: its bytes; none where it isn't there
abbrev pub line_told : Option Line → List ℕ
line_told None = []
line_told (Some line) = line.bytes

-- what is told of the refused line: its bytes without the carriage return at its end; none where it is too long
abbrev pub IsTold : InputCode → Option (List ℕ) → List ℕ → Type 0
IsTold code line [] = ¬ (code ≡ LineTooLong) → option_map without_return line ≡ Some []
IsTold code line (b ∷ bytes) = option_map without_return line ≡ Some (b ∷ bytes)

-- the line of the header that stands already where a line is refused: the first line with the name that this one begins
-- with. Of a second stream none is told
abbrev pub header_told : InputCode → List TapLines → List ℕ → Option ℕ
header_told SecondStream lines line = None
header_told code lines line = first_like lines line

-- where that header stands in its file, where it stands before the line of this number; so many lines have the files
abbrev pub header_stands : List ℕ → ℕ → Option ℕ → Option FileLine
header_stands counts number None = None
header_stands counts number (Some header) = if nat_lt header number then Some (file_line counts header) else None

-- of files that are read as one input: the line is the first that is refused, and stands there in that file; its bytes
-- are those of the line with this number, and the header is that of the tap that they name
pub record IsRefused (lefts : List (Option (List ℕ))) (refusal : Refusal) : Type 0 where
  pub files : List (List ℕ)
  pub told : AreTold lefts files
  pub refused : taps_read (input_of Bundle (joined files)) ≡ Err (Input refusal.number refusal.code)
  pub stands : refusal.at ≡ file_line (line_counts files) refusal.number
  pub line : IsTold refusal.code (slice_get (line_pieces (joined files)) (refusal.number - 1)) refusal.line
  pub header : refusal.header ≡ header_told refusal.code (tap_lines_of (joined files)) refusal.line
  pub header_at : refusal.header_at ≡ header_stands (line_counts files) refusal.number refusal.header

-- why files are not recorded: a line is refused, or one of them could not be read
abbrev pub AreUnrecorded : List (Option (List ℕ)) → ReadingFault → Type 0
AreUnrecorded lefts (Refused refusal) = IsRefused lefts refusal
AreUnrecorded lefts (Unread file) = file < length lefts
AreUnrecorded lefts Memory = Unit {0}
