use Rattle.std.proofs.Common.{◌++◌, ◌∙◌, append_assoc, ap, codes, string_bytes, sym}
use Rattle.std.proofs.lemmas.Result.{IfOk-weaker}
use Rattle.aud_refusals.specs.NoJson.{no_json_text}
use Rattle.aud_refusals.specs.Words.{payload_text}
use Rattle.aud_refusals.proofs.no_packet.push_payload.Goals as goal

pub returns-in_ok-push_str-in-NoJson : goal.returns-in_ok-push_str-in-NoJson
returns-in_ok-push_str-in-NoJson c =
    let old = string_bytes c.args.out.now in
    let why = no_json_text c.in-NoJson.why in
    IfOk-weaker c.push_no_json.result _ _ (λ done is.
    is
    ∙ ap (λ b. b ++ why) c.in_ok-push_str-in-NoJson.ensures.bytes
    ∙ append_assoc old (codes "the payload ") why
    ∙ ap (λ f. old ++ payload_text f) (sym c.in-NoJson.is)) c.push_no_json.ensures
