use Rattle.std.proofs.Common.{◌≡◌, ◌≤◌, ◌∙◌, ap, Some, false}
use Rattle.std.proofs.lemmas.Result.{IfOk-weaker}
use Rattle.std.proofs.lemmas.Str.{IsUtf8-string_bytes}
use Rattle.serde_json.specs.Data.{depth}
use Rattle.serde_json.specs.View.{view}
use Rattle.serde_json.specs.Written.{has_float, compact_text}
use Rattle.aud_tap.proofs.Json.{json_or-read}
use Rattle.aud_cert.specs.declared.text_fault.CertFault.TheVariants.{Syntax}
use Rattle.aud_cert.proofs.Back.{certificate-back, certificate-depth, certificate-float}
use Rattle.aud_cert.proofs.write.write_cert.Goals as goal

pub returns : goal.returns
returns c =
    let cert = c.args.cert.now in
    let value = c.in_ok-value.ensures in
    let shallow : depth (view c.in_ok-value.value) ≤ 127 = rw value (certificate-depth cert) in
    let no_float : has_float (view c.in_ok-value.value) ≡ false = rw value (certificate-float cert) in
    record {
      written = IfOk-weaker c.to_string.result _ _ (λ s text. text no_float ∙ ap compact_text value) c.to_string.ensures.text;
      reads_back =
          IfOk-weaker c.to_string.result _ _
          (λ s back. certificate-back _ cert (json_or-read Syntax _ _ (IsUtf8-string_bytes s, back shallow ∙ ap Some value))) c.to_string.ensures.reads_back;
    }
