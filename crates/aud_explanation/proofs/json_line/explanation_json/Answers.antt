use Rattle.std.proofs.Common.{rules, ◌≡◌, ◌∙◌, ap, false, string_bytes}
use Rattle.serde_json.specs.View.{view}
use Rattle.serde_json.specs.Written.{has_float, compact_text}
use Rattle.aud_explanation.specs.Json.{explanation_data}
use Rattle.aud_explanation.proofs.JsonPlain.{explanation-plain}
use Rattle.aud_explanation.proofs.json_line.explanation_json.Goals as goal

pub returns : goal.returns
returns c =
    let whole = explanation_data c.args.files.now c.args.explanation.now in
    let value : view c.in_ok-value.value ≡ whole = c.in_ok-value.ensures in
    let no_float : has_float (view c.in_ok-value.value) ≡ false = rw value (explanation-plain c.args.files.now c.args.explanation.now) in
    let text : string_bytes c.in_ok-json.json ≡ compact_text whole = c.in_ok-json.ensures.text no_float ∙ ap compact_text value in
    search rules
