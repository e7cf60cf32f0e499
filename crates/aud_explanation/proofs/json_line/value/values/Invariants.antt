use Rattle.std.proofs.Common.{◌≡◌, take}
use Rattle.serde_json.specs.View.{items_view}
use Rattle.aud_cert.specs.Text.{items}
use Rattle.aud_explanation.proofs.json_line.value.values.Given as goal

abbrev pub invariant-loop-one : goal.invariant-loop-one
invariant-loop-one g l = items_view l.values.items ≡ items (g.T.Told.data_of l.files l.pid) (take l.one-index l.list)
