-- The rows of records of a client's tap that carry no packet.
use Rattle.std.specs.Prelude.{ℕ, Bool, true, false, List, Option, Some, None, if◌then◌else◌, slice_get}
use Rattle.std.specs.Option.{option_map, option_and_then}
use Rattle.aud_tap.specs.declared.records.ClientRec.{ClientRec}
use Rattle.aud_tap.specs.declared.records.ClientRec.TheVariants as tap
use Rattle.aud_node.specs.Cluster.{Cluster}
use Rattle.aud_node.specs.NodeTaps.{client_at}
use Rattle.aud_client.specs.TapPackets.{tap_packets}
use Rattle.aud_client.specs.StayPlaces.{PlacesSeen}
use Rattle.aud_input.specs.TapLines.{TapLines}
use Rattle.aud_rows.specs.declared.row.Role.{Role}
use Rattle.aud_rows.specs.Seen.{RowSeen, Lost, NoPacket}
use Rattle.aud_rows.specs.Marks.{marks_of, first_past, open_before}
use Rattle.aud_rows.specs.ClientPlaces.{places_at}
use Rattle.aud_rows.specs.Rows.{Said, said_row}

-- ---- the end of a stay's connection

abbrev pub is_lost : Option ClientRec → Bool
is_lost (Some tap.Lost) = true
is_lost _ = false

-- the record with this number loses the connection that goes on there
abbrev pub lost_said : List ClientRec → ℕ → Option Said
lost_said recs number = if is_lost (slice_get recs number) then option_map (λ conn. (number, Lost conn)) (open_before recs number) else None

-- the first mark past the record with this number does
abbrev pub lost_past : List ClientRec → ℕ → Option Said
lost_past recs number = option_and_then (lost_said recs) (first_past number (marks_of recs))

-- the connection of a stay with these records is lost after the stay's last packet
abbrev pub lost_in : Option (List ClientRec) → Option PlacesSeen → Option Said
lost_in (Some recs) (Some places) = lost_past recs places.last
lost_in _ _ = None

-- that of the stay with this number of the tap at this place
abbrev pub lost_at : Cluster → ℕ → ℕ → Option Said
lost_at c place stay = lost_in (client_at c place) (slice_get (places_at c place) stay)

-- the row of the `lost` that ends its connection
abbrev pub lost_row : Cluster → List TapLines → ℕ → ℕ → Role → Option RowSeen
lost_row c lines place stay role = option_and_then (said_row c lines place role) (lost_at c place stay)

-- ---- the first record that is no packet

-- the record with this number is no packet
abbrev pub bad_said : List ClientRec → ℕ → Option Said
bad_said recs number = option_map (λ conn. (number, NoPacket conn)) (open_before recs number)

abbrev pub bad_in : Option (List ClientRec) → Option Said
bad_in (Some recs) = option_and_then (bad_said recs) (tap_packets recs).bad
bad_in None = None

-- the first that is none of the tap at this place
abbrev pub bad_at : Cluster → ℕ → Option Said
bad_at c place = bad_in (client_at c place)

-- the row of the first record that is no packet of the tap at this place
abbrev pub bad_row : Cluster → List TapLines → ℕ → Role → Option RowSeen
bad_row c lines place role = option_and_then (said_row c lines place role) (bad_at c place)
