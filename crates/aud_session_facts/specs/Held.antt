-- How the builder of spans is told which rooms a session holds in the end: by its own records, and no positions.
use Rattle.std.specs.Prelude.{ℕ, List, [], ◌∷◌, Option, Some, None, slice_get}
use Rattle.aud_tap.specs.declared.records.NodeRec.{NodeRec}
use Rattle.aud_node.specs.Stream.{Text}
use Rattle.aud_node.specs.Cluster.{Cluster, node_log}
use Rattle.aud_rooms.specs.Turns.{Turn}
use Rattle.aud_rooms.specs.TurnPlaces.{own_between}
use Rattle.aud_rooms.specs.Assigned.{Assigned, changed_by}

-- the record, if there is one, changes them
abbrev pub changed_by_some : Text → Option NodeRec → Assigned → Assigned
changed_by_some pid None a = a
changed_by_some pid (Some rec) a = changed_by pid rec a

-- the node's record with this number does
abbrev pub walked_record : Cluster → ℕ → Text → ℕ → Assigned → Assigned
walked_record c node pid number a = changed_by_some pid (slice_get (node_log c node) number) a

-- records do, one after another
abbrev pub walked_records : Cluster → ℕ → Text → List ℕ → Assigned → Assigned
walked_records c node pid [] a = a
walked_records c node pid (number ∷ numbers) a = walked_records c node pid numbers (walked_record c node pid number a)

-- the session's own records of a turn do
abbrev pub walked_turn : Cluster → Text → Turn → Assigned → Assigned
walked_turn c pid t a = walked_records c t.node pid (own_between (node_log c t.node) pid t.from t.to) a

-- turn after turn
abbrev pub walked_turns : Cluster → Text → List Turn → Assigned → Assigned
walked_turns c pid [] a = a
walked_turns c pid (t ∷ turns) a = walked_turns c pid turns (walked_turn c pid t a)
