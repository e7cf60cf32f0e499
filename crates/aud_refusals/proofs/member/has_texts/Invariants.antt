use Rattle.std.proofs.Common.{◌≡◌, drop, is_some}
use Rattle.serde_json.specs.Find.{as_str}
use Rattle.aud_json.specs.View.{list_view}
use Rattle.aud_reader.specs.Fields.{all_items}
use Rattle.aud_refusals.proofs.member.has_texts.Given as goal

-- those so far are texts
abbrev pub invariant-loop-item : goal.invariant-loop-item
invariant-loop-item l = is_some (all_items as_str (list_view l.item-items)) ≡ is_some (all_items as_str (list_view (drop l.item-index l.item-items)))
