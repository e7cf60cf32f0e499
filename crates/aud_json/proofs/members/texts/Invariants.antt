use Rattle.std.proofs.Common.{◌≡◌, ℕ, ◌≤◌, length}
use Rattle.json.specs.Json.{items, value, parse_map}
use Rattle.serde_json.specs.Data.{Items}
use Rattle.serde_json.specs.Read.{of_items, converted}
use Rattle.aud_json.specs.Shown.{shown_items}
use Rattle.aud_json.specs.View.{list_view}
use Rattle.aud_json.proofs.Growing.{items_after}
use Rattle.aud_json.proofs.members.texts.Given as goal

abbrev pub invariant-items : goal.invariant-items
invariant-items l =
    (n : ℕ) × (length l.reader ≤ n)
    × ((ds : Items)
    × (converted of_items (items (value l.depth) (length l.initial.reader) l.initial.reader) ≡ parse_map (items_after ds) (converted of_items (items (value l.depth) n l.reader)))
    × (shown_items ds ≡ list_view l.found.items))
    × (length l.reader ≤ length l.initial.reader)

abbrev pub decreases-items : goal.decreases-items
decreases-items l = length l.reader
