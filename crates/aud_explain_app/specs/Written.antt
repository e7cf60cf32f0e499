-- The explanation of a session, written.
use Rattle.std.specs.Prelude.{◌≡◌, ℕ, List, ◌++◌, codes, map}
use Rattle.aud_node.specs.Stream.{Text}
use Rattle.aud_input.specs.declared.input_file.InputFile.{InputFile}
use Rattle.aud_causes.specs.Candidates.{refuted, text_of}
use Rattle.aud_explanation.specs.declared.cause.CauseOf.TheVariants.{Fault}
use Rattle.aud_explanation.specs.declared.explanation.Explanation.{Explanation}
use Rattle.aud_explanation.specs.Text.{explanation_text}
use Rattle.aud_explanation.specs.Json.{explanation_json}
use Rattle.aud_findings.specs.Also.{also_seen}
use Rattle.aud_verdict.specs.declared.verdict.Verdict.{Verdict}
use Rattle.aud_explain_app.specs.declared.explained.Explained.{Explained}
use Rattle.aud_explain_app.specs.declared.written.Form.{Form}
use Rattle.aud_explain_app.specs.declared.written.Form.TheVariants.{Text as InText, Json}
use Rattle.aud_explain_app.specs.Lent.{also_told, cause_of, cause_told, causes_of_refusals, recoveries_shown, recovery_told}

-- an explanation in this form, of an input of these files: its lines and an empty one, or a line of JSON
abbrev pub form_text : Form → List InputFile → Explanation → List ℕ
form_text InText files e = explanation_text files e ++ codes "\n"
form_text Json files e = explanation_json files e ++ codes "\n"

-- the explanation has what is told of the session with this pid, on which this is the verdict, and names these others
pub record IsOf (pid : Text) (verdict : Verdict) (alike : List Text) (told : Explained) (e : Explanation) : Type 0 where
  pub pid_is : e.pid.now ≡ pid
  pub verdict_is : e.verdict.now ≡ verdict
  pub client_is : e.client ≡ told.outcome.client
  pub account_is : e.account ≡ told.outcome.account
  pub turns_are : e.turns.now ≡ told.turns.items
  pub evidence_is : e.evidence.now ≡ told.outcome.evidence.items
  pub also_are : map also_told e.also.now ≡ map also_seen told.outcome.also.ranges.items
  pub also_left_is : e.also_left ≡ told.outcome.also.left
  pub alike_are : map (λ other. other.now) e.alike.now ≡ alike
  pub refused_are : map recovery_told e.refused.now ≡ recoveries_shown told.refused.items
  pub events_are : e.events.now ≡ told.events.items
  pub causes_are : map cause_told e.causes.now ≡ map (cause_of Fault) told.causes.items ++ causes_of_refusals told.refused.items
  pub refuted_are : map text_of e.refuted.now ≡ refuted verdict told.causes.items

-- the text is that of such an explanation, in this form
pub record IsWritten (form : Form) (files : List InputFile) (pid : Text) (verdict : Verdict) (alike : List Text) (told : Explained) (text : List ℕ) : Type 0 where
  pub explanation : Explanation
  pub is_of : IsOf pid verdict alike told explanation
  pub text_is : text ≡ form_text form files explanation
