use Rattle.std.proofs.Common.{◌≡◌, take}
use Rattle.serde_json.specs.View.{items_view}
use Rattle.aud_writer.specs.Written.{text_items}
use Rattle.aud_writer.proofs.fields.texts.Given as goal

abbrev pub invariant-loop-text : goal.invariant-loop-text
invariant-loop-text l = items_view l.list.items ≡ text_items (take l.text-index l.texts)
