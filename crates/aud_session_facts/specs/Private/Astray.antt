-- The first record of a session on a node that stands in no turn there, found record after record.
use Rattle.std.specs.Prelude.{◌≡◌, ◌<◌, ◌≤◌, ℕ, Bool, true, false, List, [], ◌∷◌, Option, Some, None, if◌then◌else◌, slice_get}
use Rattle.aud_tap.specs.declared.records.NodeRec.{NodeRec}
use Rattle.aud_node.specs.Stream.{Text}
use Rattle.aud_node.specs.Cluster.{Cluster, node_log}
use Rattle.aud_node.specs.TurnRecords.{begins_turn, ends_any_turn, turn_range}
use Rattle.aud_rooms.specs.Turns.{Turn}
use Rattle.aud_maker.specs.InTurn.{number_begun, turn_past, is_in_turn}
use Rattle.aud_session_facts.specs.declared.astray.Astray.{Astray}
use Rattle.aud_session_facts.specs.declared.place.RecordPlace.{RecordPlace}
use Rattle.aud_session_facts.specs.Places.{IsOwn}

-- the number of the turn that the record begins, if there is one
abbrev pub begun_by : Option NodeRec → Option ℕ
begun_by None = None
begun_by (Some rec) = number_begun rec

-- there is a record, and it is a `break` or the `gone` of the session
abbrev pub ends_at : Text → Option NodeRec → Bool
ends_at pid None = false
ends_at pid (Some rec) = ends_any_turn pid rec

-- of the node's records with these numbers, the first that does not stand in the turn that goes on there, and that turn
abbrev pub astray_from : List NodeRec → List Turn → ℕ → List ℕ → Option Turn → Option Astray
astray_from log turns node [] current = None
astray_from log turns node (number ∷ numbers) current =
    if is_in_turn node number (turn_past turns (slice_get log number) current)
    then astray_from log turns node numbers (turn_past turns (slice_get log number) current)
    else Some (record { number = number; going_on = turn_past turns (slice_get log number) current })

-- a record of the session stands past the end of a turn of its node, and after the first record of that turn none up to
-- it begins a turn
pub record IsPast (c : Cluster) (pid : Text) (t : Turn) (place : RecordPlace) : Type 0 where
  pub turn : ℕ
  pub ranged : turn_range (node_log c t.node) pid turn ≡ Some (t.from, t.to)
  pub same_node : t.node ≡ place.node
  pub past : t.to ≤ place.number
  pub own : IsOwn c pid place
  pub none_begun : (i k : ℕ) (rec : NodeRec) → t.from < i → i ≤ place.number → slice_get (node_log c place.node) i ≡ Some rec → begins_turn pid k rec ≡ true → ⊥
