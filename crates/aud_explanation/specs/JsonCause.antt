-- A cause as an object.
use Rattle.std.specs.Prelude.{ℕ, List, codes, Option, None}
use Rattle.serde_json.specs.Data.{Data, boolean, string, array, object, no_members, member}
use Rattle.aud_cert.specs.Text.{items, whole}
use Rattle.aud_explanation.specs.declared.cause.Cause.{Cause}
use Rattle.aud_explanation.specs.declared.cause.CauseOf.{CauseOf}
use Rattle.aud_explanation.specs.declared.cause.CauseOf.TheVariants.{Fault, Refused}
use Rattle.aud_explanation.specs.CauseState.{is_certain, state_word}
use Rattle.aud_explanation.specs.JsonValue.{number_or_null}

-- what it is of, in a word
abbrev pub of_word : CauseOf → List ℕ
of_word Fault = codes "fault"
of_word (Refused line) = codes "refused"

-- the line of the ask, of a refused recovery
abbrev pub of_line : CauseOf → Option ℕ
of_line Fault = None
of_line (Refused line) = line

-- `{"id":..,"lines":..,"of":..,"of_line":..,"state":..,"sure":..,"todo":..,"why":..}`
abbrev pub cause_data : Cause → Data
cause_data c =
    object (member (codes "id") (string c.id.now)
    (member (codes "lines") (array (items whole c.lines.now))
    (member (codes "of") (string (of_word c.of))
    (member (codes "of_line") (number_or_null (of_line c.of))
    (member (codes "state") (string (state_word c.state))
    (member (codes "sure") (boolean (is_certain c.state))
    (member (codes "todo") (string c.todo.now)
    (member (codes "why") (string c.why.now) no_members))))))))
