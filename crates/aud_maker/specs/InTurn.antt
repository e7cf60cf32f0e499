-- Whether a session's records stand in its turns, found record after record.
use Rattle.std.specs.Prelude.{ℕ, suc, Bool, true, false, List, [], ◌∷◌, ◌&&◌, Option, Some, None, nat_eq, nat_le, nat_lt, slice_get}
use Rattle.aud_tap.specs.declared.records.NodeRec.{NodeRec}
use Rattle.aud_tap.specs.declared.records.NodeRec.TheVariants.{Opened, Back}
use Rattle.aud_node.specs.Stream.{Text}
use Rattle.aud_node.specs.Cluster.{Cluster, node_log}
use Rattle.aud_node.specs.OwnRecords.{own_numbers}
use Rattle.aud_rooms.specs.Turns.{Turn}

-- the number of the turn that the record begins
abbrev pub number_begun : NodeRec → Option ℕ
number_begun (Opened pid sid nsp) = Some 0
number_begun (Back pid (suc k)) = Some (suc k)
number_begun _ = None

-- the turn with the number, if there is a number; else the turn as it was
abbrev pub turn_or : List Turn → Option ℕ → Option Turn → Option Turn
turn_or turns None current = current
turn_or turns (Some k) current = slice_get turns k

-- the turn that goes on after the record, if there is one
abbrev pub turn_past : List Turn → Option NodeRec → Option Turn → Option Turn
turn_past turns None current = current
turn_past turns (Some rec) current = turn_or turns (number_begun rec) current

-- there is a turn, and the node's record with this number stands in it
abbrev pub is_in_turn : ℕ → ℕ → Option Turn → Bool
is_in_turn node number None = false
is_in_turn node number (Some t) = nat_eq t.node node && (nat_le t.from number && nat_lt number t.to)

-- the node's records with these numbers stand each in the turn that goes on there
abbrev pub are_in_turns : List NodeRec → List Turn → ℕ → List ℕ → Option Turn → Bool
are_in_turns log turns node [] current = true
are_in_turns log turns node (number ∷ numbers) current =
    is_in_turn node number (turn_past turns (slice_get log number) current)
    && are_in_turns log turns node numbers (turn_past turns (slice_get log number) current)

-- so do all records of the session in the node's log
abbrev pub is_swept : Cluster → List Turn → Text → ℕ → Bool
is_swept c turns pid node = are_in_turns (node_log c node) turns node (own_numbers (node_log c node) pid) None
