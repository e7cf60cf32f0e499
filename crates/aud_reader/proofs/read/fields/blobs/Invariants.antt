use Rattle.std.proofs.Common.{◌≡◌, drop}
use Rattle.aud_json.specs.View.{list_view}
use Rattle.aud_reader.specs.Fields.{as_blob, all_items}
use Rattle.aud_reader.proofs.Lists.{with_front}
use Rattle.aud_reader.proofs.read.fields.blobs.Given as goal

abbrev pub invariant-loop-item : goal.invariant-loop-item
invariant-loop-item l = with_front l.blobs.items (all_items as_blob (list_view (drop l.item-index l.items))) ≡ all_items as_blob (list_view l.items)
