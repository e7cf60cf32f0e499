-- What is made of an input so far.
use Rattle.std.specs.Prelude.{◌≡◌, ℕ, ◌+◌, ◌-◌, ◌*◌, ◌<◌, ◌≤◌, ◌++◌, List, [], ◌∷◌, length, map, is_none, Bool, false, if◌then◌else◌, Option, Some, None, IfSome, Ok, Err, slice_get, sum_by}
use Rattle.aud_input.specs.declared.input.Layout.TheVariants.{Bundle}
use Rattle.aud_input.specs.Input.{input_of}
use Rattle.aud_input.specs.Reader.{HasLines, InputSoFar, input_to_come}
use Rattle.aud_input.specs.Sources.{ended, is_begun}
use Rattle.aud_reader.specs.Lines.{line_pieces}
use Rattle.std.specs.List.{flat_map}
use Rattle.aud_input.specs.TapLines.{lines_noted, tap_lines_of}
use Rattle.aud_reader.specs.declared.fault.ReadFault.{ReadFault}
use Rattle.aud_reader.specs.declared.fault.ReadFault.TheVariants.{Input}
use Rattle.aud_reader.specs.declared.fault.ReadFault.TheVariants as kind
use Rattle.aud_input.specs.declared.reading.Recorded.{Recorded}
use Rattle.aud_input.specs.declared.reading.ReadingFault.{ReadingFault}
use Rattle.aud_input.specs.declared.reading.ReadingFault.TheVariants.{Refused, Unread, Memory}
use Rattle.aud_input.specs.FileLine.{file_line}
use Rattle.aud_input.specs.Files.{AreTold, IsTold, header_stands, header_told, taps_read}
use Rattle.aud_input.specs.declared.feeding.Feeding.{Feeding}

-- no more bytes were taken in than the pieces may have
pub record IsWithin (s : Feeding) : Type 0 where
  pub number : s.reader.cut.number ≤ 1 + s.pieces * 4194304
  pub size : s.bytes ≤ s.pieces * 4194304
  pub pieces : s.pieces ≤ 4294967296

-- so many bytes may be asked for at once
abbrev pub IsRoom : ℕ → Type 0
IsRoom n = (0 < n) × (n ≤ 4194304)

-- a reader takes in these bytes: what comes after them gives what it gives after them, and a refusal stays
pub record Takes (old new : InputSoFar) (bytes : List ℕ) : Type 0 where
  pub input : (more : List ℕ) → input_to_come new more ≡ input_to_come old (bytes ++ more)
  pub lines : (before : List ℕ) → HasLines before old → HasLines (before ++ bytes) new
  pub stays : IfSome old.fault (λ fault. new.fault ≡ Some fault)

-- these bytes of a file are taken in
pub record TakesIn (old new : Feeding) (bytes : List ℕ) : Type 0 where
  pub takes : Takes old.reader new.reader bytes
  pub begun : new.begun ≡ is_begun old.begun bytes
  pub size : new.bytes ≡ old.bytes + length bytes

-- a file is taken in, from here to its end: the bytes that the reader has left, where it tells them
abbrev pub IsReadWhole : Option (List ℕ) → Feeding → Feeding → Type 0
IsReadWhole left old new = (bytes : List ℕ) × IfSome left (λ told. bytes ≡ told) × TakesIn old new bytes

-- what ends the line that has begun, if one has
abbrev pub line_end : Bool → List ℕ
line_end begun = if begun then 10 ∷ [] else []

-- the line that has begun is ended, and no byte of the next file was taken in
pub record EndsFile (old new : Feeding) : Type 0 where
  pub takes : Takes old.reader new.reader (line_end old.begun)
  pub begun : new.begun ≡ false
  pub size : new.bytes ≡ old.bytes

-- how many lines the files have, with one file more, before which so many lines were noted. A file in which a line is
-- refused isn't counted
abbrev pub counts_after : ℕ → InputSoFar → List ℕ → List ℕ
counts_after before s counts = if is_none s.fault then counts ++ (lines_noted s.index - before) ∷ [] else counts

-- how many lines each of these files has, or those of them that stand before the line that is refused: enough to say
-- where it stands, and each line before it
abbrev pub AreCounted : List (List ℕ) → List ℕ → Option ReadFault → Type 0
AreCounted files counts None = counts ≡ map (λ file. length (line_pieces file)) files
AreCounted files counts (Some (Input n code)) =
    (later : List ℕ) (m : ℕ) → m ≤ n → file_line counts m ≡ file_line (map (λ file. length (line_pieces file)) files ++ later) m
AreCounted files counts (Some kind.Memory) = Unit {0}

-- these bytes were taken in
pub record IsRead (bytes : List ℕ) (s : InputSoFar) : Type 0 where
  pub input : (more : List ℕ) → input_to_come s more ≡ input_of Bundle (bytes ++ more)
  pub lines : HasLines bytes s

-- these files were taken in, each with its last line ended
pub record AreTaken (files : List (List ℕ)) (counts : List ℕ) (s : Feeding) : Type 0 where
  pub read : IsRead (flat_map (ended false) files) s.reader
  pub counted : AreCounted files counts s.reader.fault
  pub begun : s.begun ≡ false
  pub size : s.bytes ≡ sum_by (λ file. length file) files

-- the files of these readers were taken in, where they tell their bytes
abbrev pub AreReadBefore : List (Option (List ℕ)) → List ℕ → Feeding → Type 0
AreReadBefore lefts counts s = (files : List (List ℕ)) × AreTold lefts files × AreTaken files counts s

-- what is recorded of a text
pub record IsRecordedOf (bytes : List ℕ) (read : Recorded) : Type 0 where
  pub taps : taps_read (input_of Bundle bytes) ≡ Ok read.taps
  pub lines : tap_lines_of bytes ≡ read.lines
  pub count : read.size.lines ≡ length (line_pieces bytes)

-- what is told of a text whose line is refused, where the files before it have so many lines
abbrev pub IsRefusedOf : List ℕ → List ℕ → ReadingFault → Type 0
IsRefusedOf bytes counts (Refused refusal) =
    (taps_read (input_of Bundle bytes) ≡ Err (Input refusal.number refusal.code)) × (refusal.at ≡ file_line counts refusal.number)
    × IsTold refusal.code (slice_get (line_pieces bytes) (refusal.number - 1)) refusal.line × (refusal.header ≡ header_told refusal.code (tap_lines_of bytes) refusal.line)
    × (refusal.header_at ≡ header_stands counts refusal.number refusal.header)
IsRefusedOf bytes counts (Unread file) = ⊥
IsRefusedOf bytes counts Memory = Unit {0}

-- this file could not be read, or there was no memory
abbrev pub TellsUnread : ℕ → ReadingFault → Type 0
TellsUnread place (Refused refusal) = ⊥
TellsUnread place (Unread file) = file ≡ place
TellsUnread place Memory = Unit {0}
