-- When rows show that a record of a client's tap is no packet.
use Rattle.std.specs.Prelude.{◌≡◌, ℕ, List, [], Option, Some}
use Rattle.std.specs.Option.{option_and_then}
use Rattle.aud_tap.specs.declared.records.ClientRec.{ClientRec}
use Rattle.aud_node.specs.Cluster.{Cluster}
use Rattle.aud_node.specs.NodeTaps.{client_at}
use Rattle.aud_client.specs.TapPackets.{tap_packets}
use Rattle.aud_input.specs.TapLines.{TapLines}
use Rattle.aud_rows.specs.declared.row.Role.TheVariants.{Earlier, Fault}
use Rattle.aud_rows.specs.EndRows.{bad_row}
use Rattle.aud_rows.specs.Lacking.{lacking_row}
use Rattle.aud_rows.specs.Seen.{RowSeen}
use Rattle.aud_session_facts.specs.RowLists.{row_and}

-- the number of the first record of the client's tap at the place that is no packet
abbrev pub bad_number : Cluster → ℕ → Option ℕ
bad_number c place = option_and_then (λ (recs : List ClientRec). (tap_packets recs).bad) (client_at c place)

-- the row of the packet that lacks attachments when a text of the first such record comes, if one does, and the row of
-- that record
abbrev pub frame_rows : Cluster → List TapLines → ℕ → List RowSeen
frame_rows c lines place = row_and (lacking_row c lines place Earlier) (row_and (bad_row c lines place Fault) [])

-- the client's tap at the place has a record that is no packet, and these rows are of the first
pub record ShowsFrame (c : Cluster) (lines : List TapLines) (place : ℕ) (rows : List RowSeen) : Type 0 where
  pub number : ℕ
  pub is_bad : bad_number c place ≡ Some number
  pub are_its_rows : rows ≡ frame_rows c lines place
