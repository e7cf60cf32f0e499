use Rattle.std.proofs.Common.{◌≡◌, ◌∙◌, ap, false}
use Rattle.std.proofs.lemmas.Result.{IfOk-weaker}
use Rattle.serde_json.specs.View.{view}
use Rattle.serde_json.specs.Written.{has_float, compact_text}
use Rattle.aud_explain_app.proofs.Plain.{summary-plain}
use Rattle.aud_explain_app.proofs.summary.json.summary_json.Goals as goal

pub returns : goal.returns
returns c =
    let value = c.in_ok-value.ensures in
    let no_float : has_float (view c.in_ok-value.value) ≡ false = rw value (summary-plain c.args.summary.now c.args.told.now) in
    IfOk-weaker c.to_string.result _ _ (λ s text. text no_float ∙ ap compact_text value) c.to_string.ensures.text
