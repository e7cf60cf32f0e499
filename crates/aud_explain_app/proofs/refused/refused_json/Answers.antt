use Rattle.std.proofs.Common.{◌≡◌, ◌++◌, ◌∙◌, ap, codes, false}
use Rattle.serde_json.specs.View.{view}
use Rattle.serde_json.specs.Written.{compact_text, has_float}
use Rattle.aud_explain_app.proofs.Plain.{refused-plain}
use Rattle.aud_explain_app.proofs.refused.refused_json.Goals as goal

pub returns : goal.returns
returns c =
    let value = c.in_ok-value.ensures in
    let no_float : has_float (view c.in_ok-value.value) ≡ false = rw value (refused-plain c.args.names.now c.args.refused.now c.args.help.now) in
    c.in_ok-writeln.ensures.bytes ∙ ap (λ text. text ++ codes "\n") (c.in_ok-out.ensures.text no_float ∙ ap compact_text value)
