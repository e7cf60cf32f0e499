use Rattle.std.proofs.Common.{◌≡◌, drop}
use Rattle.aud_json.specs.View.{list_view}
use Rattle.serde_json.specs.Find.{as_str}
use Rattle.aud_reader.specs.Fields.{all_items}
use Rattle.aud_reader.proofs.Lists.{with_front}
use Rattle.aud_reader.proofs.read.fields.texts.Given as goal

abbrev pub invariant-loop-item : goal.invariant-loop-item
invariant-loop-item l = with_front l.texts.items (all_items as_str (list_view (drop l.item-index l.items))) ≡ all_items as_str (list_view l.items)
