-- When rows show that a client's tap has an event of which nobody knows the session.
use Rattle.std.specs.Prelude.{◌≡◌, ℕ, List, [], Some}
use Rattle.aud_node.specs.Lists.{first_index}
use Rattle.aud_node.specs.Cluster.{Cluster}
use Rattle.aud_client.specs.Received.{is_orphan}
use Rattle.aud_input.specs.TapLines.{TapLines}
use Rattle.aud_rows.specs.declared.row.Role.TheVariants.{Ask, Reply, Fault, Later}
use Rattle.aud_rows.specs.EndRows.{lost_row}
use Rattle.aud_rows.specs.Seen.{RowSeen}
use Rattle.aud_rows.specs.StayRows.{ask_row, reply_row, frame_row, stays_at}
use Rattle.aud_session_facts.specs.RowLists.{row_and}

-- what the stay asked, its reply, its first event, and the end of its connection, as far as there are these
abbrev pub orphan_rows : Cluster → List TapLines → ℕ → ℕ → List RowSeen
orphan_rows c lines place stay =
    row_and (ask_row c lines place stay Ask) (row_and (reply_row c lines place stay Reply)
    (row_and (frame_row c lines place stay 0 Fault) (row_and (lost_row c lines place stay Later) [])))

-- this stay is the first in the client's tap at the place that has events, and whose reply, if there is one, names
-- nobody; and these are its rows
pub record ShowsOrphan (c : Cluster) (lines : List TapLines) (place : ℕ) (rows : List RowSeen) : Type 0 where
  pub stay : ℕ
  pub is_first : first_index is_orphan (stays_at c place) ≡ Some stay
  pub are_its_rows : rows ≡ orphan_rows c lines place stay
