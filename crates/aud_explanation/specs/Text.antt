-- The text of an explanation.
use Rattle.std.specs.Prelude.{ℕ, List, ◌++◌, flat_map, length}
use Rattle.aud_input.specs.declared.input_file.InputFile.{InputFile}
use Rattle.aud_explanation.specs.declared.explanation.Explanation.{Explanation}
use Rattle.aud_explanation.specs.ExplainedClass.{class_of_explained}
use Rattle.aud_explanation.specs.Long.{long_text}
use Rattle.aud_explanation.specs.Verdict.{verdict_text}
use Rattle.aud_explanation.specs.Client.{client_text}
use Rattle.aud_explanation.specs.Evidence.{evidence_text}
use Rattle.aud_explanation.specs.AlsoText.{also_text, more_text}
use Rattle.aud_explanation.specs.AlikeText.{alike_text}
use Rattle.aud_explanation.specs.TurnText.{turns_text}
use Rattle.aud_explanation.specs.EventText.{events_text}
use Rattle.aud_explanation.specs.RefusedText.{refused_text}
use Rattle.aud_explanation.specs.CauseText.{causes_text}

-- the line of the verdict, that of the client, the evidence, and the other entries with the same fault
abbrev pub shown_text : List InputFile → Explanation → List ℕ
shown_text files e = verdict_text e.pid.now e.verdict.now (class_of_explained e) ++ client_text e.verdict.now e.client (length e.turns.now) e.account ++ evidence_text files e.pid.now e.verdict.now e.evidence.now ++ flat_map also_text e.also.now ++ more_text e.also_left

-- the rows of the turns and of the client, the refused recoveries, and the causes
abbrev pub told_text : List InputFile → Explanation → List ℕ
told_text files e = turns_text e.turns.now ++ events_text e.events.now ++ long_text (refused_text files e.pid.now e.verdict.now) e.refused.now ++ causes_text e.refuted.now e.causes.now

-- all of it, the other sessions with the same fault after its entries: of the lines of rows it is said in which of these
-- files they stand, where there are several
abbrev pub explanation_text : List InputFile → Explanation → List ℕ
explanation_text files e = shown_text files e ++ alike_text e.alike.now ++ told_text files e
