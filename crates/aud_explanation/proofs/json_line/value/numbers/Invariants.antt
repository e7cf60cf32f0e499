use Rattle.std.proofs.Common.{◌≡◌, take}
use Rattle.serde_json.specs.View.{items_view}
use Rattle.aud_cert.specs.Text.{items, whole}
use Rattle.aud_explanation.proofs.json_line.value.numbers.Given as goal

abbrev pub invariant-loop-number : goal.invariant-loop-number
invariant-loop-number l = items_view l.values.items ≡ items whole (take l.number-index l.numbers)
