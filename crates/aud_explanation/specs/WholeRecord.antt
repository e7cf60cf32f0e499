-- A record as a line of the bundle has it, where it is asked for by its number.
use Rattle.std.specs.Prelude.{ℕ, List, [], ◌++◌, codes, decimal, Option, Some, None}
use Rattle.std.specs.Option.{option_and_then}
use Rattle.serde_json.specs.Data.{Data, object, string, no_members, put}
use Rattle.serde_json.specs.Written.{compact_text}
use Rattle.aud_cert.specs.Text.{whole}
use Rattle.aud_input.specs.declared.input_file.InputFile.{InputFile}
use Rattle.aud_input.specs.InputFiles.{place_told}
use Rattle.aud_explanation.specs.JsonValue.{number_or_null}
use Rattle.aud_explanation.specs.Place.{place_text, with_place}
use Rattle.aud_explanation.specs.Printed.{json_printed, printed}

-- `  line 12`, and where that stands among several files; nothing where it isn't known
abbrev pub line_words : List InputFile → Option ℕ → List ℕ
line_words files (Some line) = codes "  line " ++ decimal line ++ place_text (place_told files line)
line_words files None = []

-- `a 3  line 12`
abbrev pub head_words : List InputFile → List ℕ → ℕ → Option ℕ → List ℕ
head_words files tap number line = tap ++ codes " " ++ decimal number ++ line_words files line

-- the tap, the record's number, its line, and its JSON: `a 3  line 12  {"k":"take","off":"1-0"}`. The line of text has any
-- number of columns
abbrev pub whole_record_text : List InputFile → List ℕ → ℕ → Option ℕ → Data → List ℕ
whole_record_text files tap number line json =
    printed (head_words files tap number line) ++ codes "  " ++ json_printed (compact_text json) ++ codes "\n"

-- `{"file":..,"file_line":..,"line":..,"number":..,"record":..,"tap":..,"v":1}`
unfoldable pub whole_record_data : List InputFile → List ℕ → ℕ → Option ℕ → Data → Data
whole_record_data files tap number line json =
    object (put (codes "v") (whole 1)
    (put (codes "tap") (string tap)
    (put (codes "record") json
    (put (codes "number") (whole number)
    (put (codes "line") (number_or_null line)
    (with_place (option_and_then (place_told files) line) no_members))))))

-- the same as one line of JSON, as it is printed
abbrev pub whole_record_json : List InputFile → List ℕ → ℕ → Option ℕ → Data → List ℕ
whole_record_json files tap number line json = json_printed (compact_text (whole_record_data files tap number line json)) ++ codes "\n"
