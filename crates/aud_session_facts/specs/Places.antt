-- Records of a session, by their places in the nodes' logs.
use Rattle.std.specs.Prelude.{◌≡◌, ℕ, true, Option, Some, slice_get}
use Rattle.aud_tap.specs.declared.records.NodeRec.{NodeRec}
use Rattle.aud_tap.specs.declared.records.NodeRec.TheVariants.{Broke}
use Rattle.aud_node.specs.Stream.{Text}
use Rattle.aud_node.specs.Cluster.{Cluster, node_log}
use Rattle.aud_node.specs.TurnRecords.{pid_of, begins_turn, turn_range}
use Rattle.aud_session_facts.specs.declared.place.RecordPlace.{RecordPlace}

-- the record at this place
abbrev pub record_at : Cluster → RecordPlace → Option NodeRec
record_at c place = slice_get (node_log c place.node) place.number

-- the record at this place names the session
pub record IsOwn (c : Cluster) (pid : Text) (place : RecordPlace) : Type 0 where
  pub rec : NodeRec
  pub there : record_at c place ≡ Some rec
  pub names : pid_of rec ≡ Some pid

-- the record at this place begins turn k of the session
pub record Begins (c : Cluster) (pid : Text) (k : ℕ) (place : RecordPlace) : Type 0 where
  pub rec : NodeRec
  pub there : record_at c place ≡ Some rec
  pub begins : begins_turn pid k rec ≡ true

-- the record at this place is the session's `break` k
abbrev pub Breaks : Cluster → Text → ℕ → RecordPlace → Type 0
Breaks c pid k place = record_at c place ≡ Some (Broke pid k)

-- no log has a `break` k of the session
abbrev pub HasNoBreak : Cluster → Text → ℕ → Type 0
HasNoBreak c pid k = (place : RecordPlace) → Breaks c pid k place → ⊥

-- in its node's log, turn k of the session is the records from the first place on and before the number
abbrev pub IsRange : Cluster → Text → ℕ → RecordPlace → ℕ → Type 0
IsRange c pid k begin to = turn_range (node_log c begin.node) pid k ≡ Some (begin.number, to)
