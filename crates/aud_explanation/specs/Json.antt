-- The JSON of an explanation.
use Rattle.std.specs.Prelude.{ℕ, List, codes}
use Rattle.std.specs.Borrow.{Bor}
use Rattle.serde_json.specs.Data.{Data, array, object, Members, no_members, put}
use Rattle.serde_json.specs.Written.{compact_text}
use Rattle.aud_cert.specs.Text.{items}
use Rattle.aud_input.specs.declared.input_file.InputFile.{InputFile}
use Rattle.aud_explanation.specs.declared.cause.Cause.{Cause}
use Rattle.aud_explanation.specs.declared.event.ClientEvent.{ClientEvent}
use Rattle.aud_explanation.specs.declared.explanation.Explanation.{Explanation}
use Rattle.aud_explanation.specs.ExplainedClass.{class_of_explained}
use Rattle.aud_explanation.specs.JsonValue.{text_data, with_shown}
use Rattle.aud_explanation.specs.JsonVerdict.{with_verdict}
use Rattle.aud_explanation.specs.JsonAccount.{with_client, with_account}
use Rattle.aud_explanation.specs.JsonTurn.{turn_data}
use Rattle.aud_explanation.specs.JsonRow.{with_evidence}
use Rattle.aud_explanation.specs.JsonAlso.{with_also}
use Rattle.aud_explanation.specs.JsonRefused.{refused_data}
use Rattle.aud_explanation.specs.JsonEvent.{event_data}
use Rattle.aud_explanation.specs.JsonCause.{cause_data}
use Rattle.aud_explanation.specs.Printed.{json_printed}

-- the verdict, the client, and what it received
abbrev pub head_members : Explanation → Members → Members
head_members e ms = with_account e.verdict.now e.account (with_client e.client (with_verdict e.pid.now e.verdict.now (class_of_explained e) ms))

-- the turns, the evidence, and the other entries and sessions
abbrev pub shown_members : List InputFile → Explanation → Members → Members
shown_members files e ms =
    with_also e.also.now e.also_left e.alike.now
    (with_evidence files e.pid.now e.evidence.now
    (with_shown turn_data (codes "turns") (codes "turns_left") e.turns.now ms))

-- what happened to the client
unfoldable pub with_events : List ClientEvent → Members → Members
with_events events ms = with_shown event_data (codes "events") (codes "events_left") events ms

-- the causes
unfoldable pub with_causes : List Cause → Members → Members
with_causes causes ms = with_shown cause_data (codes "causes") (codes "causes_left") causes ms

-- the names of the causes that were refuted
unfoldable pub with_refuted : List (Bor (List ℕ)) → Members → Members
with_refuted refuted ms = put (codes "refuted") (array (items text_data refuted)) ms

-- the refused recoveries, what happened to the client, the causes, and the names of those that were refuted
abbrev pub told_members : List InputFile → Explanation → Members → Members
told_members files e ms =
    with_refuted e.refuted.now
    (with_causes e.causes.now
    (with_events e.events.now
    (with_shown (refused_data files e.pid.now) (codes "refused") (codes "refused_left") e.refused.now ms)))

-- an object with all these members, its keys in byte order
abbrev pub explanation_data : List InputFile → Explanation → Data
explanation_data files e = object (told_members files e (shown_members files e (head_members e no_members)))

-- its text, without blanks, as it is printed
abbrev pub explanation_json : List InputFile → Explanation → List ℕ
explanation_json files e = json_printed (compact_text (explanation_data files e))
