use Rattle.std.proofs.Common.{◌≡◌, take}
use Rattle.serde_json.specs.Data.{item, string}
use Rattle.serde_json.specs.View.{items_view}
use Rattle.aud_cert.specs.Text.{items, whole}
use Rattle.aud_cert.proofs.write.row_value.Given as goal

abbrev pub invariant-loop-number : goal.invariant-loop-number
invariant-loop-number l = items_view l.items.items ≡ item (string l.name) (items whole (take l.number-index l.numbers))
