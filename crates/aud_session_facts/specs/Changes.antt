-- Where a session last joined or left a room.
use Rattle.std.specs.Prelude.{ℕ, Bool, true, false, List, [], ◌∷◌, take, min, Option, Some, None, if◌then◌else◌, ◌&&◌, slice_get}
use Rattle.std.specs.Option.{option_map, option_and_then, option_or}
use Rattle.std.specs.Str.{bytes_eq}
use Rattle.aud_tap.specs.declared.records.NodeRec.{NodeRec}
use Rattle.aud_tap.specs.declared.records.NodeRec.TheVariants.{Join, Leave}
use Rattle.aud_node.specs.Stream.{Text}
use Rattle.aud_node.specs.Cluster.{Cluster, node_log}
use Rattle.aud_rooms.specs.Turns.{Turn}
use Rattle.aud_rooms.specs.TurnPlaces.{own_between}
use Rattle.aud_session_facts.specs.declared.reach.Reach.{Reach}
use Rattle.aud_session_facts.specs.declared.change.RoomChange.{RoomChange}

-- the record joins the room for the session, or leaves it; none where it does neither
abbrev pub change_by : Text → Text → NodeRec → Option Bool
change_by pid room (Join other name) = if bytes_eq other pid && bytes_eq name room then Some true else None
change_by pid room (Leave other name) = if bytes_eq other pid && bytes_eq name room then Some false else None
change_by pid room _ = None

-- the change of the room by the node's record with this number, if it is one
abbrev pub change_at : Cluster → Text → Text → ℕ → ℕ → Option RoomChange
change_at c pid room node number =
    option_map (λ joined. record { node = node; number = number; joined = joined })
    (option_and_then (change_by pid room) (slice_get (node_log c node) number))

-- the last change of the room by these records of the node, which are named by their numbers
abbrev pub last_change_at : Cluster → Text → Text → ℕ → List ℕ → Option RoomChange
last_change_at c pid room node [] = None
last_change_at c pid room node (number ∷ numbers) = option_or (last_change_at c pid room node numbers) (change_at c pid room node number)

-- the last change of the room by the session's own records of the turn
abbrev pub last_change_in : Cluster → Text → Text → Turn → Option RoomChange
last_change_in c pid room t = last_change_at c pid room t.node (own_between (node_log c t.node) pid t.from t.to)

-- the last change of the room by the session's own records of the turns
abbrev pub last_change_over : Cluster → Text → Text → List Turn → Option RoomChange
last_change_over c pid room [] = None
last_change_over c pid room (t ∷ later) = option_or (last_change_over c pid room later) (last_change_in c pid room t)

-- the turn's records before the one with this number
abbrev pub turn_before : Turn → ℕ → Turn
turn_before t number = record t { to = min t.to number }

-- the last change of the room by the session's own records before the reach: those of its turn before its record, and
-- those of the turns before its turn
abbrev pub last_change_before : Cluster → Text → Text → List Turn → Reach → Option RoomChange
last_change_before c pid room turns reach =
    option_and_then
    (λ t. option_or (last_change_in c pid room (turn_before t reach.number)) (last_change_over c pid room (take reach.turn turns)))
    (slice_get turns reach.turn)
