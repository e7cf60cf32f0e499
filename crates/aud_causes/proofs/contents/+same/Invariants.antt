use Rattle.std.proofs.Common.{◌≡◌, drop}
use Rattle.serde_json.specs.View.{items_view, members_view}
use Rattle.aud_causes.specs.SameJson.{same_items, same_members}
use Rattle.aud_causes.proofs.contents.+same.Given as goal

-- what is compared is what is left from this item on
abbrev pub invariant-same_items-loop-i : goal.invariant-same_items-loop-i
invariant-same_items-loop-i l =
    same_items (items_view l.items) (items_view l.others) ≡ same_items (items_view (drop l.i l.items)) (items_view (drop l.i l.others))

abbrev pub invariant-same_members-loop-key : goal.invariant-same_members-loop-key
invariant-same_members-loop-key l =
    same_members (members_view l.members.entries) (members_view l.others.entries)
    ≡ same_members (members_view l.key-iterator) (members_view l.left)
