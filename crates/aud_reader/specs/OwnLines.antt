-- A tap's records are those of its own lines: the lines that begin with its name, of which the first is its header.
use Rattle.std.specs.Prelude.{◌≡◌, ◌≢◌, ℕ, List, [], ◌∷◌, map, count_by, filter_map, Option, Some, None, Ok, if◌then◌else◌}
use Rattle.std.specs.List.{All}
use Rattle.std.specs.Option.{option_and_then, option_map_or}
use Rattle.std.specs.Result.{result_ok}
use Rattle.aud_tap.specs.declared.records.Rec.{Rec}
use Rattle.aud_tap.specs.declared.records.Rec.TheVariants as rec
use Rattle.aud_tap.specs.declared.taps.Records.{Records}
use Rattle.aud_tap.specs.declared.taps.Records.TheVariants.{Stream, Node, Client}
use Rattle.aud_tap.specs.declared.taps.Tap.{Tap}
use Rattle.aud_tap.specs.Forms.{is_text}
use Rattle.aud_reader.specs.declared.line.Line.{Line}
use Rattle.aud_reader.specs.Record.{line_record}
use Rattle.aud_reader.specs.Bundle.{kind_of_tap, tap_named}

-- ---- of the lines

-- the record, if it is for the tap of this name
abbrev pub if_for : List ℕ → List ℕ × Rec → Option Rec
if_for name parts = if is_text name parts.0 then Some parts.1 else None

-- the record of a line, which nothing but the line tells, if the line names this tap
abbrev pub record_for : List ℕ → Line → Option Rec
record_for name line = option_and_then (if_for name) (result_ok (line_record line.bytes))

-- the records of the lines that name this tap, in their order
abbrev pub records_for : List ℕ → List Line → List Rec
records_for name lines = filter_map (record_for name) lines

-- ---- of the taps

-- a tap's records, each as a record of any tap
abbrev pub recs_in : Records → List Rec
recs_in (Stream entries) = map rec.Stream entries
recs_in (Node records) = map rec.Node records
recs_in (Client records) = map rec.Client records

-- a tap's header, and then its records
abbrev pub recs_of : Tap → List Rec
recs_of t = rec.Header (kind_of_tap t.records) t.version ∷ recs_in t.records

-- those of the tap of this name; none where there is no such tap
abbrev pub recs_by_name : List ℕ → List Tap → List Rec
recs_by_name name taps = option_map_or recs_of (tap_named name taps) []

-- ---- the laws

-- a tap's header and its records are those of the lines that name it, in their order: none is lost, and none added
abbrev pub HaveTheirOwnLines : List Line → List Tap → Type 0
HaveTheirOwnLines lines taps = (name : List ℕ) → records_for name lines ≡ recs_by_name name taps

-- a line has a record, and exactly one tap has the name that it begins with
pub record IsOfOneTap (taps : List Tap) (line : Line) : Type 0 where
  pub name : List ℕ
  pub rec : Rec
  pub reads : line_record line.bytes ≡ Ok (name, rec)
  pub one : count_by (λ t. is_text name t.name) taps ≡ 1

-- each line that has bytes is of one tap
abbrev pub EachLineIsOfOneTap : List Line → List Tap → Type 0
EachLineIsOfOneTap lines taps = All (λ line. line.bytes ≢ [] → IsOfOneTap taps line) lines
