-- A row as an object, and the members of the evidence.
use Rattle.std.specs.Prelude.{ℕ, List, codes}
use Rattle.serde_json.specs.Data.{Data, string, array, object, Members, no_members, put}
use Rattle.aud_cert.specs.Text.{items, whole}
use Rattle.aud_input.specs.declared.input_file.InputFile.{InputFile}
use Rattle.aud_input.specs.InputFiles.{place_told}
use Rattle.aud_rows.specs.declared.row.Row.{Row}
use Rattle.aud_rows.specs.declared.row.Role.{Role}
use Rattle.aud_rows.specs.declared.row.Role.TheVariants.{Fault, Earlier, Later, Entry, Reached, Room, Left, Break, Back, Ask, Reply}
use Rattle.aud_explanation.specs.declared.name.Names.TheVariants.{Whole}
use Rattle.aud_explanation.specs.LongRows.{rows_left, rows_shown}
use Rattle.aud_explanation.specs.Place.{with_place}
use Rattle.aud_explanation.specs.JsonValue.{text_or_null}
use Rattle.aud_explanation.specs.Record.{record_text, other_session}

-- what a record is shown for
abbrev pub role_word : Role → List ℕ
role_word Fault = codes "fault"
role_word Earlier = codes "earlier"
role_word Later = codes "later"
role_word Entry = codes "entry"
role_word Reached = codes "reached"
role_word Room = codes "room"
role_word Left = codes "left"
role_word Break = codes "break"
role_word Back = codes "back"
role_word Ask = codes "ask"
role_word Reply = codes "reply"

-- `{"file":..,"file_line":..,"line":..,"of":..,"role":..,"says":..,"tap":..}`: the session where it isn't the one with this
-- pid
unfoldable pub row_data : List InputFile → List ℕ → Row → Data
row_data files pid row =
    object (put (codes "tap") (string row.tap.now)
    (put (codes "role") (string (role_word row.role))
    (put (codes "of") (text_or_null (other_session pid row.session))
    (put (codes "says") (string (record_text Whole row.says))
    (put (codes "line") (whole row.line)
    (with_place (place_told files row.line) no_members))))))

-- the rows that are shown of the session with this pid, and how many are left out
unfoldable pub with_evidence : List InputFile → List ℕ → List Row → Members → Members
with_evidence files pid rows ms =
    put (codes "evidence_left") (whole (rows_left rows)) (put (codes "evidence") (array (items (row_data files pid) (rows_shown rows))) ms)
