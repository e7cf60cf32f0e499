use Rattle.std.proofs.Common.{◌≡◌, ◌≤◌, length, take}
use Rattle.serde_json.specs.Find.{get_member}
use Rattle.aud_json.specs.View.{members_view}
use Rattle.aud_json.proofs.fields.last_named.Given as goal

abbrev pub invariant-left : goal.invariant-left
invariant-left l = (get_member l.name (members_view l.list.items) ≡ get_member l.name (members_view (take l.left l.list.items))) × (l.left ≤ length l.list.items)

abbrev pub decreases-left : goal.decreases-left
decreases-left l = l.left
