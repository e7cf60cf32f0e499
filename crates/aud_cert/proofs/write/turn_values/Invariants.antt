use Rattle.std.proofs.Common.{◌≡◌, take}
use Rattle.serde_json.specs.View.{items_view}
use Rattle.aud_cert.specs.Text.{items, turn_data}
use Rattle.aud_cert.proofs.write.turn_values.Given as goal

abbrev pub invariant-loop-turn : goal.invariant-loop-turn
invariant-loop-turn l = items_view l.values.items ≡ items turn_data (take l.turn-index l.turns)
