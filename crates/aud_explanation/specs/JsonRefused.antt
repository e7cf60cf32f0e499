-- A refused recovery as an object.
use Rattle.std.specs.Prelude.{ℕ, List, codes, Option, Some, None}
use Rattle.std.specs.Option.{option_copied}
use Rattle.serde_json.specs.Data.{Data, boolean, null, string, array, object, no_members, member}
use Rattle.aud_cert.specs.Text.{items, whole}
use Rattle.aud_input.specs.declared.input_file.InputFile.{InputFile}
use Rattle.aud_rows.specs.declared.row.Row.{Row}
use Rattle.aud_explanation.specs.declared.refused.Missed.{Missed}
use Rattle.aud_explanation.specs.declared.refused.RefusedRecovery.{RefusedRecovery}
use Rattle.aud_explanation.specs.JsonValue.{text_data, text_or_null}
use Rattle.aud_explanation.specs.Long.{all_shown, left_out}
use Rattle.aud_explanation.specs.JsonRow.{row_data}

-- `{"off":..,"position":..}`
abbrev pub missed_data : Missed → Data
missed_data m = object (member (codes "off") (string m.off.now) (member (codes "position") (whole m.position) no_members))

-- what was missed, as far as it is shown; `null` where that is not known
abbrev pub all_missed_data : Option (List Missed) → Data
all_missed_data (Some entries) = array (items missed_data (all_shown entries))
all_missed_data None = null

-- how many entries are left out after the hundredth, `null` where they are not known
abbrev pub missed_left_data : Option (List Missed) → Data
missed_left_data (Some entries) = whole (left_out entries)
missed_left_data None = null

-- the reply, `null` where there was none
abbrev pub reply_data : List InputFile → List ℕ → Option Row → Data
reply_data files pid (Some reply) = row_data files pid reply
reply_data files pid None = null

-- `{"ask":..,"has_cause":..,"instead":..,"missed":..,"missed_left":..,"refuted":[..],"reply":..}`
abbrev pub refused_data : List InputFile → List ℕ → RefusedRecovery → Data
refused_data files pid r =
    object (member (codes "ask") (row_data files pid r.ask)
    (member (codes "has_cause") (boolean r.has_cause)
    (member (codes "instead") (text_or_null (option_copied r.instead))
    (member (codes "missed") (all_missed_data (option_copied r.missed))
    (member (codes "missed_left") (missed_left_data (option_copied r.missed))
    (member (codes "refuted") (array (items text_data r.refuted.now))
    (member (codes "reply") (reply_data files pid r.reply) no_members)))))))
