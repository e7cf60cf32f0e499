-- What lines say by themselves, read before their records are added to the taps.
use Rattle.std.specs.Prelude.{◌≡◌, ℕ, List, Some, Result, Ok, IsErr}
use Rattle.std.specs.List.{AllZip}
use Rattle.aud_reader.specs.declared.fault.InputCode.{InputCode}
use Rattle.aud_reader.specs.declared.line.Line.{Line}
use Rattle.aud_reader.specs.declared.bundle.own_records.OwnRecord.{OwnRecord}
use Rattle.aud_reader.specs.declared.bundle.own_records.OwnRecord.TheVariants.{Placed, Unplaced, NoRecord}
use Rattle.aud_tap.specs.declared.records.Rec.{Rec}
use Rattle.aud_tap.specs.declared.taps.Tap.{Tap}
use Rattle.aud_base.specs.Steps.{◌>>=◌}
use Rattle.aud_tap.specs.Names.{place_of}
use Rattle.aud_reader.specs.Record.{line_record}
use Rattle.aud_reader.specs.Private.Packed.{rec_of}

-- a record that is read, after the name of its tap
abbrev pub with_name : List ℕ → Result Rec InputCode → Result (List ℕ × Rec) InputCode
with_name name reading = reading >>= (λ rec. Ok (name, rec))

-- what is kept of a line that is read so, beside these taps: its record, with the place of the tap that it names or
-- without; nothing where it is refused
abbrev pub IsOwnOf : List Tap → Result (List ℕ × Rec) InputCode → OwnRecord → Type 0
IsOwnOf taps reading (Placed place rec) = (name : List ℕ) × (reading ≡ Ok (name, rec_of rec)) × (place_of taps name ≡ Some place)
IsOwnOf taps reading (Unplaced rec) = (name : List ℕ) × (reading ≡ Ok (name, rec_of rec))
IsOwnOf taps reading NoRecord = IsErr reading

-- what the line says by itself, with the place that its tap has among these
abbrev pub IsOfLine : List Tap → Line → OwnRecord → Type 0
IsOfLine taps line own = IsOwnOf taps (line_record line.bytes) own

-- the same of each line, in the lines' order
abbrev pub AreOfLines : List Tap → List Line → List OwnRecord → Type 0
AreOfLines taps lines own = AllZip (IsOfLine taps) lines own
