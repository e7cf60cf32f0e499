use Rattle.std.proofs.Common.{rules, ◌≡◌, string_bytes}
use Rattle.serde_json.specs.View.{view}
use Rattle.serde_json.specs.Written.{compact_text}
use Rattle.aud_explanation.proofs.whole_record.whole_record_text.Goals as goal

pub returns : goal.returns
returns c = λ no_float.
    let json : string_bytes c.in_ok-json.json ≡ compact_text (view c.args.json.now) = c.in_ok-json.ensures.text no_float in
    search rules
