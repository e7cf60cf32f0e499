use Rattle.std.proofs.Common.{◌≡◌, ◌≤◌, ◌∙◌, ap, Some, false, arith}
use Rattle.std.proofs.lemmas.Result.{IfOk-weaker}
use Rattle.std.proofs.lemmas.Str.{IsUtf8-string_bytes}
use Rattle.serde_json.specs.Data.{depth}
use Rattle.serde_json.specs.View.{view}
use Rattle.serde_json.specs.Written.{has_float, compact_text}
use Rattle.aud_tap.proofs.Json.{json_or-read}
use Rattle.aud_reader.specs.Record.{json_of}
use Rattle.aud_reader.specs.declared.fault.InputCode.TheVariants.{NotJson}
use Rattle.aud_writer.proofs.JsonText.{record-plain}
use Rattle.aud_writer.proofs.line.value_json.Goals as goal

pub returns : goal.returns
unfolding json_of
returns c = record {
  text = λ rec value.
      let no_float : has_float (view c.args.value.now) ≡ false = rw value (record-plain rec).1 in
      IfOk-weaker c.to_string.result _ _ (λ s text. text no_float ∙ ap compact_text value) c.to_string.ensures.text;
  reads = λ rec value.
      let shallow : depth (view c.args.value.now) ≤ 127 = rw value (let d = (record-plain rec).0 in omega arith) in
      IfOk-weaker c.to_string.result _ _ (λ s back. json_or-read NotJson _ _ (IsUtf8-string_bytes s, back shallow ∙ ap Some value)) c.to_string.ensures.reads_back;
}
