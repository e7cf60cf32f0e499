-- The records of a session that begin or end its turns.
use Rattle.std.specs.Prelude.{ℕ, List, length, Option, Some, None, if◌then◌else◌, slice_get}
use Rattle.std.specs.Option.{option_map}
use Rattle.std.specs.List.{filter_map, flat_map}
use Rattle.std.specs.Str.{bytes_eq}
use Rattle.aud_tap.specs.declared.records.NodeRec.{NodeRec}
use Rattle.aud_tap.specs.declared.records.NodeRec.TheVariants as recs
use Rattle.aud_node.specs.Lists.{numbers_from}
use Rattle.aud_node.specs.Stream.{Text}
use Rattle.aud_node.specs.Cluster.{Cluster, node_log}
use Rattle.aud_session_facts.specs.declared.marks.Mark.{Mark}
use Rattle.aud_session_facts.specs.declared.marks.Mark.TheVariants.{Open, Back, Break, Gone}
use Rattle.aud_session_facts.specs.declared.marks.TurnMark.{TurnMark}

-- how the record, if there is one, begins or ends a turn of the session
abbrev pub mark_of : Text → Option NodeRec → Option Mark
mark_of pid (Some (recs.Opened other sid nsp)) = if bytes_eq other pid then Some Open else None
mark_of pid (Some (recs.Back other turn)) = if bytes_eq other pid then Some (Back turn) else None
mark_of pid (Some (recs.Broke other turn)) = if bytes_eq other pid then Some (Break turn) else None
mark_of pid (Some (recs.Gone other)) = if bytes_eq other pid then Some Gone else None
mark_of pid _ = None

-- the mark of the record with this number in the log of the node at this place
abbrev pub mark_at : Cluster → Text → ℕ → ℕ → Option TurnMark
mark_at c pid node number =
    option_map (λ mark. record { place = record { node = node; number = number }; mark = mark }) (mark_of pid (slice_get (node_log c node) number))

-- those of the node at this place, by number
abbrev pub marks_on : Cluster → Text → ℕ → List TurnMark
marks_on c pid node = filter_map (mark_at c pid node) (numbers_from 0 (length (node_log c node)))

-- those of all nodes, in the order of the taps
abbrev pub turn_marks : Cluster → Text → List TurnMark
turn_marks c pid = flat_map (marks_on c pid) (numbers_from 0 (length c.taps))
