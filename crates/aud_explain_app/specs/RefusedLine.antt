-- What is written where a line is refused.
use Rattle.std.specs.Prelude.{ℕ, List, [], ◌++◌, codes, decimal, length, nat_lt, Option, Some, None, slice_get, if◌then◌else◌}
use Rattle.serde_json.specs.Data.{Data, member, no_members, null, object, string}
use Rattle.serde_json.specs.Written.{compact_text}
use Rattle.aud_cert.specs.Text.{whole}
use Rattle.aud_node.specs.Stream.{Text}
use Rattle.aud_input.specs.declared.place.FileLine.{FileLine}
use Rattle.aud_input.specs.declared.refusal.Refusal.{Refusal}
use Rattle.aud_reader.specs.declared.fault.InputCode.{InputCode}
use Rattle.aud_reader.specs.declared.fault.InputCode.TheVariants.{HeaderTwice, UnknownKind}
use Rattle.aud_explanation.specs.JsonValue.{text_or_null}
use Rattle.aud_explanation.specs.Printed.{printed}
use Rattle.aud_explain_app.specs.declared.written.Form.{Form}
use Rattle.aud_explain_app.specs.declared.written.Form.TheVariants.{Text as InText, Json}
use Rattle.aud_refusals.specs.Help.{help_text}
use Rattle.aud_verdict.specs.declared.output.Status.TheVariants.{Refused}
use Rattle.aud_verdict.specs.Output.{OutputSeen}
use Rattle.aud_reader.specs.Codes.{code_text}
use Rattle.aud_verdict.specs.Report.{refusal_line}

-- the name of the file, where there are several
abbrev pub file_told : List Text → FileLine → Option Text
file_told names at = if nat_lt (length names) 2 then None else slice_get names at.file

-- a line of the file of this name, as the name is printed
abbrev pub named_line : Option Text → ℕ → List ℕ
named_line None line = []
named_line (Some name) line = codes "That is line " ++ decimal line ++ codes " of " ++ printed name ++ codes ".\n"

-- where a line stands in its file, where there are several
abbrev pub place_line : List Text → FileLine → List ℕ
place_line names at = named_line (file_told names at) at.line

-- where the header stands that stands already, of refusals whose help names its line
abbrev pub header_line : List Text → InputCode → Option FileLine → List ℕ
header_line names HeaderTwice (Some at) = place_line names at
header_line names UnknownKind (Some at) = place_line names at
header_line names code at = []

-- the help on the line
abbrev pub help_on : Refusal → List ℕ
help_on r = help_text r.line r.code r.header

-- `{"file":..,"file_line":..,"line":..}` of the header that stands already
abbrev pub header_data : List Text → Option ℕ → Option FileLine → Data
header_data names (Some line) (Some at) =
    object (member (codes "file") (text_or_null (slice_get names at.file))
    (member (codes "file_line") (whole at.line)
    (member (codes "line") (whole line) no_members)))
header_data names header at = null

-- `{"file":..,"file_line":..,"header":..,"help":..,"line":..,"name":..}`, with the file's name where one is named
abbrev pub refused_data : List Text → Refusal → List ℕ → Data
refused_data names r help =
    object (member (codes "file") (text_or_null (slice_get names r.at.file))
    (member (codes "file_line") (whole r.at.line)
    (member (codes "header") (header_data names r.header r.header_at)
    (member (codes "help") (string help)
    (member (codes "line") (whole r.number)
    (member (codes "name") (string (code_text r.code)) no_members))))))

abbrev pub json_data : List Text → Refusal → List ℕ → Data
json_data names r help = object (member (codes "refused") (refused_data names r help) (member (codes "v") (whole 1) no_members))

abbrev pub json_line : List Text → Refusal → List ℕ → List ℕ
json_line names r help = compact_text (json_data names r help) ++ codes "\n"

-- the line as the other modes name it, its place in its file where there are several, the help, and the place of the
-- header that it names; or all of it in a line of JSON
abbrev pub refused_text : Form → List Text → Refusal → List ℕ
refused_text InText names r =
    refusal_line r.number (code_text r.code) ++ place_line names r.at ++ help_on r ++ header_line names r.code r.header_at
refused_text Json names r = json_line names r (help_on r)

abbrev pub refused_output : Form → List Text → Refusal → OutputSeen
refused_output form names r = record { status = Refused; text = refused_text form names r }
