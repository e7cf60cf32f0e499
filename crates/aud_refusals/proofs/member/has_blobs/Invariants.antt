use Rattle.std.proofs.Common.{◌≡◌, drop, is_some}
use Rattle.aud_json.specs.View.{list_view}
use Rattle.aud_reader.specs.Fields.{all_items, as_blob}
use Rattle.aud_refusals.proofs.member.has_blobs.Given as goal

-- those so far spell bytes
abbrev pub invariant-loop-item : goal.invariant-loop-item
invariant-loop-item l = is_some (all_items as_blob (list_view l.item-items)) ≡ is_some (all_items as_blob (list_view (drop l.item-index l.item-items)))
