-- The explanations of sessions, one after the other.
use Rattle.std.specs.Prelude.{◌≡◌, ℕ, List, ◌++◌, flat_map, length, map, string_bytes}
use Rattle.std.specs.List.{AllZip}
use Rattle.aud_node.specs.Cluster.{Cluster}
use Rattle.aud_explain_app.specs.declared.explained.Explained.{Explained}
use Rattle.aud_explain_app.specs.declared.sessions.ToldText.{ToldText}
use Rattle.aud_explain_app.specs.declared.written.Form.{Form}
use Rattle.aud_explain_app.specs.CausesTold.{AreCausesTold}
use Rattle.aud_explain_app.specs.Explained.{IsExplained}
use Rattle.aud_explain_app.specs.Written.{IsWritten}
use Rattle.aud_input.specs.declared.input_file.InputFile.{InputFile}
use Rattle.aud_input.specs.TapLines.{TapLines}
use Rattle.aud_explain_app.specs.declared.summary.causes.CausesTold.{CausesTold}
use Rattle.aud_explain_app.specs.Alike.{Telling}
use Rattle.aud_explain_app.specs.Asked.{asked_for}

-- the text is that of an explanation of the session, with its verdict and its refused recoveries, which names the others;
-- and the causes are those that the same explanation tells
pub record IsTextOf (c : Cluster) (lines : List TapLines) (form : Form) (files : List InputFile) (t : Telling) (told : ToldText) : Type 0 where
  pub explained : Explained
  pub is_explained : IsExplained c lines t.session.pid t.session.verdict (asked_for c t.session.pid) explained
  pub is_written : IsWritten form files t.session.pid t.session.verdict t.alike explained (string_bytes told.text)
  pub are_causes : AreCausesTold t.session.verdict (length t.alike) explained told.causes

abbrev pub text_in : ToldText → List ℕ
text_in told = string_bytes told.text

abbrev pub causes_in : ToldText → CausesTold
causes_in told = told.causes

-- texts of these sessions, one of each, were added, and what they tell of causes
pub record AddTexts (c : Cluster) (lines : List TapLines) (form : Form) (files : List InputFile) (tellings : List Telling) (old new : List ℕ) (before after : List CausesTold) : Type 0 where
  pub told : List ToldText
  pub are_told : AllZip (IsTextOf c lines form files) tellings told
  pub added : new ≡ old ++ flat_map text_in told
  pub causes_added : after ≡ before ++ map causes_in told
