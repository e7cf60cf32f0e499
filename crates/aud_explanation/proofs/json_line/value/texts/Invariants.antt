use Rattle.std.proofs.Common.{◌≡◌, take}
use Rattle.serde_json.specs.View.{items_view}
use Rattle.aud_cert.specs.Text.{items}
use Rattle.aud_explanation.specs.JsonValue.{text_data}
use Rattle.aud_explanation.proofs.json_line.value.texts.Given as goal

abbrev pub invariant-loop-text : goal.invariant-loop-text
invariant-loop-text l = items_view l.values.items ≡ items text_data (take l.text-index l.texts)
