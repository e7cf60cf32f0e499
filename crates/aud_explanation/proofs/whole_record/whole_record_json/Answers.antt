use Rattle.std.proofs.Common.{rules, ◌≡◌, ◌∙◌, ap, false, string_bytes}
use Rattle.serde_json.specs.View.{view}
use Rattle.serde_json.specs.Written.{compact_text, has_float}
use Rattle.aud_explanation.specs.WholeRecord.{whole_record_data}
use Rattle.aud_explanation.proofs.JsonPlain.{record-plain}
use Rattle.aud_explanation.proofs.whole_record.whole_record_json.Goals as goal

pub returns : goal.returns
returns c = λ plain.
    let whole = whole_record_data c.args.files.now c.args.tap.now c.args.number c.args.line (view c.args.json) in
    let value : view c.in_ok-value.value ≡ whole = c.in_ok-value.ensures in
    let no_float : has_float (view c.in_ok-value.value) ≡ false = rw value (record-plain c.args.files.now c.args.tap.now c.args.number c.args.line (view c.args.json) plain) in
    let text : string_bytes c.in_ok-json.json ≡ compact_text whole = c.in_ok-json.ensures.text no_float ∙ ap compact_text value in
    search rules
