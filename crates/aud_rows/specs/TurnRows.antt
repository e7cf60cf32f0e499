-- The rows of a session's turns.
use Rattle.std.specs.Prelude.{◌-◌, nat_lt, ◌&&◌, Bool, true, false, List, Option, Some, None, if◌then◌else◌, slice_get}
use Rattle.aud_tap.specs.declared.records.NodeRec.{NodeRec}
use Rattle.aud_tap.specs.declared.records.NodeRec.TheVariants.{Broke}
use Rattle.aud_node.specs.Cluster.{Cluster, node_log}
use Rattle.aud_rooms.specs.Turns.{Turn}
use Rattle.aud_input.specs.TapLines.{TapLines}
use Rattle.aud_rows.specs.declared.row.Role.TheVariants as role
use Rattle.aud_rows.specs.Seen.{RowSeen}
use Rattle.aud_rows.specs.Rows.{node_row}

abbrev pub is_break : Option NodeRec → Bool
is_break (Some (Broke pid turn)) = true
is_break _ = false

-- the turn has records, and the last of them is a `break`
abbrev pub is_broken : Cluster → Turn → Bool
is_broken c turn = nat_lt turn.from turn.to && is_break (slice_get (node_log c turn.node) (turn.to - 1))

-- the row of the turn's first record
abbrev pub begin_row : Cluster → List TapLines → Turn → Option RowSeen
begin_row c lines turn = node_row c lines turn.node turn.from role.Back

-- the row of the `break` that ends it
abbrev pub break_row : Cluster → List TapLines → Turn → Option RowSeen
break_row c lines turn = if is_broken c turn then node_row c lines turn.node (turn.to - 1) role.Break else None
