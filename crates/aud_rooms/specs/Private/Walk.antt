-- How the builder of spans is told a session's turns: by its own records and the nodes' cursors.
use Rattle.std.specs.Prelude.{ℕ, suc, List, [], ◌∷◌, Option, Some, None, slice_get}
use Rattle.aud_tap.specs.declared.records.NodeRec.{NodeRec}
use Rattle.aud_node.specs.Stream.{Text}
use Rattle.aud_node.specs.Cluster.{Cluster, node_log}
use Rattle.aud_node.specs.Cursors.{cursor_at}
use Rattle.aud_rooms.specs.Turns.{Turn}
use Rattle.aud_rooms.specs.TurnPlaces.{own_between}
use Rattle.aud_rooms.specs.Assigned.{Assigned, changed_by, covered_upto}

-- the positions up to the cursor take the rooms held so far, and the record, if there is one, changes them
abbrev pub at_cursor : Text → ℕ → Option NodeRec → Assigned → Assigned
at_cursor pid cursor None a = a
at_cursor pid cursor (Some rec) a = changed_by pid rec (covered_upto cursor a)

-- the same for the node's record with this number, at the cursor after it
abbrev pub walked_record : Cluster → ℕ → Text → ℕ → Assigned → Assigned
walked_record c node pid number a =
    at_cursor pid (cursor_at c.stream (node_log c node) (suc number)) (slice_get (node_log c node) number) a

-- the same for records one after another
abbrev pub walked_records : Cluster → ℕ → Text → List ℕ → Assigned → Assigned
walked_records c node pid [] a = a
walked_records c node pid (number ∷ numbers) a = walked_records c node pid numbers (walked_record c node pid number a)

-- a turn: the cursor after its first record, the session's own records, and the cursor after its last record
abbrev pub walked_turn : Cluster → Text → Turn → Assigned → Assigned
walked_turn c pid t a =
    covered_upto (cursor_at c.stream (node_log c t.node) t.to)
    (walked_records c t.node pid (own_between (node_log c t.node) pid t.from t.to)
    (covered_upto (cursor_at c.stream (node_log c t.node) (suc t.from)) a))

-- turn after turn
abbrev pub walked_turns : Cluster → Text → List Turn → Assigned → Assigned
walked_turns c pid [] a = a
walked_turns c pid (t ∷ turns) a = walked_turns c pid turns (walked_turn c pid t a)
