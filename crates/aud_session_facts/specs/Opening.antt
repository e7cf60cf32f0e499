-- Where a session was opened.
use Rattle.std.specs.Prelude.{ℕ, suc, List, [], ◌∷◌, Option, None}
use Rattle.std.specs.Option.{option_map, option_or}
use Rattle.aud_node.specs.Cluster.{Cluster, node_log}
use Rattle.aud_node.specs.Cursors.{cursor_at}
use Rattle.aud_node.specs.OwnPlaces.{own_places}
use Rattle.aud_node.specs.Stream.{Text}
use Rattle.aud_node.specs.TurnRecords.{turn_range}

-- the cursor of the node at the place after its first `open` of the session
abbrev pub opening_cursor_on : Cluster → Text → ℕ → Option ℕ
opening_cursor_on c pid node =
    option_map (λ (range : ℕ × ℕ). cursor_at c.stream (node_log c node) (suc range.0)) (turn_range (node_log c node) pid 0)

-- the same of the first of these nodes that has one
abbrev pub first_opening_cursor : Cluster → List ℕ → Text → Option ℕ
first_opening_cursor c [] pid = None
first_opening_cursor c (node ∷ nodes) pid = option_or (opening_cursor_on c pid node) (first_opening_cursor c nodes pid)

-- the cursor of the first node that opened the session, after its `open`
abbrev pub opening_cursor : Cluster → Text → Option ℕ
opening_cursor c pid = first_opening_cursor c (own_places c pid) pid
