-- A reader of an input that comes in pieces, and what it gives in the end.
use Rattle.std.specs.Prelude.{◌≡◌, ℕ, ◌==◌, List, [], ◌++◌, slice_get, find, Option, Some, None, Result}
use Rattle.aud_reader.specs.declared.line.Line.{Line}
use Rattle.aud_reader.specs.declared.fault.InputCode.{InputCode}
use Rattle.aud_reader.specs.declared.fault.InputCode.TheVariants.{LineTooLong}
use Rattle.aud_reader.specs.declared.fault.ReadFault.{ReadFault}
use Rattle.aud_reader.specs.declared.fault.ReadFault.TheVariants.{Input, Memory}
use Rattle.aud_reader.specs.Lines.{IsFront, IsPartial, Lines, Split, after_lines, lines_of, lines_to_come}
use Rattle.aud_reader.specs.Bundle.{Reading, taps_to_come, unless_refused}
use Rattle.aud_input.specs.declared.input.Layout.{Layout}
use Rattle.aud_input.specs.Input.{InputSeen, certificates_in, bundle_in, with_certificates, unless_cut}
use Rattle.aud_input.specs.TapLines.{Indexed, no_lines, noted}

-- what the lines are, and what became of those so far: the reader of the bundle, the bundle's lines that wait to be
-- read, and the certificates
pub record PartsSoFar : Type 0 where
  pub layout : Layout
  pub taps : Reading
  pub waiting : List Line
  pub certificates : List Line

-- the taps and the certificates in the end, where these are the lines to come; or the first refused line
abbrev pub parts_to_come : PartsSoFar → List Line → Result InputSeen ReadFault
parts_to_come s lines = with_certificates (s.certificates ++ certificates_in s.layout lines) (taps_to_come s.taps (s.waiting ++ bundle_in s.layout lines))

-- a reader: the splitter, what was read of its lines, the index of its lines where one is kept, and the refusal
pub record InputSoFar : Type 0 where
  pub cut : Split
  pub parts : PartsSoFar
  pub index : Option Indexed
  pub fault : Option ReadFault

-- what comes of these lines, after those that were read
abbrev pub input_over : PartsSoFar → Lines → Result InputSeen ReadFault
input_over parts ls = unless_cut ls.fault (parts_to_come parts ls.lines)

-- what a reader gives in the end, where this is the rest of its input
abbrev pub input_to_come : InputSoFar → List ℕ → Result InputSeen ReadFault
input_to_come s more = unless_refused s.fault (input_over s.parts (lines_to_come s.cut more))

-- ---- a reader that keeps an index

-- the line is one of these
abbrev pub IsIn : Line → List Line → Type 0
IsIn line lines = (place : ℕ) × (slice_get lines place ≡ Some line)

-- each of the first lines is one of the second
abbrev pub AreAmong : List Line → List Line → Type 0
AreAmong lines all = (line : Line) → IsIn line lines → IsIn line all

-- the line of this number
abbrev pub line_numbered : ℕ → List Line → Option Line
line_numbered n lines = find (λ line. line.number == n) lines

-- the line that is refused is one of these
abbrev pub Holds : ReadFault → List Line → Type 0
Holds (Input n code) lines = (line : Line) × IsIn line lines × (line.number ≡ n)
Holds Memory lines = Unit {0}

-- a line that is refused, other than for its length, still waits
abbrev pub HoldsRefused : Option ReadFault → List Line → Type 0
HoldsRefused fault waiting = (n : ℕ) (code : InputCode) → fault ≡ Some (Input n code) → ¬ (code ≡ LineTooLong) → Holds (Input n code) waiting

-- the splitter has given these lines, of an input that begins with these bytes, and none is refused
pub record GoesOn (bytes : List ℕ) (lines : List Line) (cut : Split) : Type 0 where
  pub cuts : (more : List ℕ) → lines_of (bytes ++ more) ≡ after_lines lines (lines_to_come cut more)
  pub unrefused : cut.fault ≡ None
  pub taken : cut.waiting ≡ []
  pub partial : IsPartial cut.rest

-- what a reader has of an input that begins with these bytes: the first lines, all that are whole unless one is
-- refused; its index is theirs, and the lines that wait are among them
pub record HasLines (bytes : List ℕ) (s : InputSoFar) : Type 0 where
  pub lines : List Line
  pub front : (more : List ℕ) → IsFront lines (lines_of (bytes ++ more)).lines
  pub whole : s.fault ≡ None → GoesOn bytes lines s.cut
  pub index : s.index ≡ Some (noted no_lines lines)
  pub waits : AreAmong s.parts.waiting lines
  pub held : HoldsRefused s.fault s.parts.waiting
