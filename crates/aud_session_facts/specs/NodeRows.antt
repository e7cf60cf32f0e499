-- The rows of nodes' records.
use Rattle.std.specs.Prelude.{List, flat_map, Option, option_to_list}
use Rattle.aud_node.specs.Cluster.{Cluster}
use Rattle.aud_input.specs.TapLines.{TapLines}
use Rattle.aud_rows.specs.Rows.{node_row}
use Rattle.aud_rows.specs.Seen.{RowSeen}
use Rattle.aud_session_facts.specs.declared.shown.node_records.NodeRecord.{NodeRecord}

-- the row of the record
abbrev pub record_row : Cluster → List TapLines → NodeRecord → Option RowSeen
record_row c lines r = node_row c lines r.place.node r.place.number r.role

-- the rows of the records, in their order
abbrev pub node_rows : Cluster → List TapLines → List NodeRecord → List RowSeen
node_rows c lines records = flat_map (λ r. option_to_list (record_row c lines r)) records
