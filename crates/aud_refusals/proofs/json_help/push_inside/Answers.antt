use Rattle.std.proofs.Common.{◌++◌, ◌∙◌, append_assoc, ap, codes, string_bytes}
use Rattle.aud_refusals.specs.NoJson.{no_json_text}
use Rattle.aud_refusals.proofs.json_help.push_inside.Goals as goal

pub returns : goal.returns
returns c =
    let old = string_bytes c.args.out.now in
    let front = codes "What follows the first blank " in
    let why = no_json_text c.in_ok-why.why in
    let end = codes ".\n" in
    c.in_ok-push_str-2.ensures.bytes
    ∙ ap (λ b. b ++ end) (c.in_ok-push_no_json.ensures ∙ ap (λ b. b ++ why) c.in_ok-push_str.ensures.bytes)
    ∙ append_assoc (old ++ front) why end ∙ append_assoc old front (why ++ end)
    ∙ ap (λ w. old ++ (front ++ (no_json_text w ++ end))) c.in_ok-why.ensures
