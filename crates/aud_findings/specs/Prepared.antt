-- What is read once of a recording for all its explanations.
use Rattle.std.specs.Prelude.{◌≡◌, ℕ, Bool, true, false, List, length, Option, Some, None, MatchOption, nat_eq, slice_get}
use Rattle.std.specs.List.{list_any}
use Rattle.std.specs.Option.{option_and_then}
use Rattle.aud_node.specs.Lists.{first_index}
use Rattle.aud_node.specs.Cluster.{Cluster, node_log}
use Rattle.aud_client.specs.Received.{is_orphan}
use Rattle.aud_findings.specs.Order.{AreInOrder, IsFirstOutOfOrder}
use Rattle.aud_rows.specs.declared.client_places.ClientPlaces.{ClientPlaces}
use Rattle.aud_rows.specs.ClientPlaces.{AreOf}
use Rattle.aud_rows.specs.StayRows.{stays_at}
use Rattle.aud_findings.specs.declared.prepared.Prepared.{Prepared}
use Rattle.aud_findings.specs.declared.prepared.PreparedTap.{PreparedTap}
use Rattle.aud_findings.specs.declared.prepared.PreparedTap.TheVariants.{Client, Order, Unread}

-- of the client's tap at the place: where its packets stand, and its first stay with events of which nobody knows the
-- session
pub record IsClientRead (c : Cluster) (place : ℕ) (places : ClientPlaces) (orphan : Option ℕ) : Type 0 where
  pub are_of : AreOf c places
  pub place_is : places.place ≡ place
  pub orphan_is : orphan ≡ first_index is_orphan (stays_at c place)

-- of the node's log at the place: its first record that is out of order
abbrev pub IsOrderRead : Cluster → ℕ → Option ℕ → Type 0
IsOrderRead c place unordered = MatchOption unordered (AreInOrder c.stream (node_log c place)) (IsFirstOutOfOrder c.stream (node_log c place))

-- what is read of the tap at the place, where it is asked for or isn't, and the orders of nodes are or aren't
abbrev pub IsRead : Cluster → Bool → Bool → ℕ → PreparedTap → Type 0
IsRead c true orders place (Client places orphan) = IsClientRead c place places orphan
IsRead c false true place (Order unordered) = IsOrderRead c place unordered
IsRead c false false place Unread = Unit {0}
IsRead c _ _ place _ = ⊥

-- this was read of all taps, where those at these places were asked for, and the orders of nodes were or weren't
pub record AreRead (c : Cluster) (places : List ℕ) (orders : Bool) (prepared : Prepared) : Type 0 where
  pub length_is : length prepared.taps.items ≡ length c.taps
  pub each : (place : ℕ) (tap : PreparedTap) → slice_get prepared.taps.items place ≡ Some tap → IsRead c (list_any (nat_eq place) places) orders place tap

-- it was read of this recording
pub record IsPreparedOf (c : Cluster) (prepared : Prepared) : Type 0 where
  pub places : List ℕ
  pub orders : Bool
  pub are_read : AreRead c places orders prepared

-- where the packets of a client's tap stand, if that was read
abbrev pub client_of : PreparedTap → Option ClientPlaces
client_of (Client places orphan) = Some places
client_of _ = None

-- the same of the tap at the place
abbrev pub tap_in : Prepared → ℕ → Option ClientPlaces
tap_in prepared place = option_and_then client_of (slice_get prepared.taps.items place)
