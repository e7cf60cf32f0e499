-- What is shown of records that are asked for by their numbers.
use Rattle.std.specs.Prelude.{ℕ, ◌+◌, List, [], ◌∷◌, ◌++◌, Option, Some, None, is_some, option_map, position, slice_get, if◌then◌else◌}
use Rattle.std.specs.Option.{option_and_then}
use Rattle.std.specs.Str.{bytes_eq}
use Rattle.serde_json.specs.Data.{Data}
use Rattle.aud_tap.specs.declared.records.Rec.{Rec}
use Rattle.aud_tap.specs.declared.taps.Tap.{Tap}
use Rattle.aud_reader.specs.OwnLines.{recs_in}
use Rattle.aud_writer.specs.Written.{record_data}
use Rattle.aud_input.specs.declared.input_file.InputFile.{InputFile}
use Rattle.aud_input.specs.TapLines.{TapLines, kept_line}
use Rattle.aud_cli.specs.declared.explain_options.NamedRecord.{NamedRecord}
use Rattle.aud_explanation.specs.WholeRecord.{whole_record_json, whole_record_text}
use Rattle.aud_verdict.specs.declared.output.Status.TheVariants.{AllYes}
use Rattle.aud_verdict.specs.Output.{OutputSeen}
use Rattle.aud_explain_app.specs.declared.written.Form.{Form}
use Rattle.aud_explain_app.specs.declared.written.Form.TheVariants.{Text as InText, Json}

-- the place of the tap of this name, in the order of the headers
abbrev pub place_named : List Tap → List ℕ → Option ℕ
place_named taps name = position (λ (tap : Tap). bytes_eq tap.name name) taps

-- the record with this number of the tap at this place; its header is not counted
abbrev pub record_at : List Tap → ℕ → ℕ → Option Rec
record_at taps number place = option_and_then (λ (tap : Tap). slice_get (recs_in tap.records) number) (slice_get taps place)

-- the record that is named
abbrev pub record_named : List Tap → NamedRecord → Option Rec
record_named taps named = option_and_then (record_at taps named.number) (place_named taps named.tap)

-- the line that is kept for it
abbrev pub line_named : List Tap → List TapLines → NamedRecord → Option ℕ
line_named taps lines named = option_and_then (λ place. kept_line lines place named.number) (place_named taps named.tap)

-- a record with its line, as text or as JSON
abbrev pub shown_in : Form → List InputFile → NamedRecord → Option ℕ → Data → List ℕ
shown_in InText files named line json = whole_record_text files named.tap named.number line json
shown_in Json files named line json = whole_record_json files named.tap named.number line json

-- the record that is named, with its line; None where there is no such record
abbrev pub named_text : Form → List InputFile → List Tap → List TapLines → NamedRecord → Option (List ℕ)
named_text form files taps lines named =
    option_map (λ rec. shown_in form files named (line_named taps lines named) (record_data rec)) (record_named taps named)

-- those that are named, one after the other; None where one of them isn't there
abbrev pub records_text : Form → List InputFile → List Tap → List TapLines → List NamedRecord → Option (List ℕ)
records_text form files taps lines [] = Some []
records_text form files taps lines (named ∷ more) =
    option_and_then (λ text. option_map (λ rest. text ++ rest) (records_text form files taps lines more)) (named_text form files taps lines named)

-- the number of the first that isn't there, where those before these are so many
abbrev pub lacking_from : ℕ → List Tap → List NamedRecord → Option ℕ
lacking_from before taps [] = None
lacking_from before taps (named ∷ more) = if is_some (record_named taps named) then lacking_from (before + 1) taps more else Some before

-- the number of the first of these records that isn't there; they count from 0
abbrev pub first_lacking : List Tap → List NamedRecord → Option ℕ
first_lacking taps named = lacking_from 0 taps named

-- the output that shows these records
abbrev pub records_output : Form → List InputFile → List Tap → List TapLines → List NamedRecord → Option OutputSeen
records_output form files taps lines named = option_map (λ text. record { status = AllYes; text = text }) (records_text form files taps lines named)
