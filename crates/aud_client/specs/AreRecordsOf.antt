-- When records of a client's tap are those of a stay: what stands at each of them gives what the stay tells.
use Rattle.std.specs.Prelude.{◌≡◌, ℕ, List, flat_map, Option, Some, None}
use Rattle.std.specs.List.{AllZip, Contains}
use Rattle.aud_tap.specs.declared.records.StreamRec.{StreamRec}
use Rattle.aud_tap.specs.declared.records.ClientRec.{ClientRec}
use Rattle.aud_node.specs.Stream.{Text}
use Rattle.aud_client.specs.TapPackets.{TapPacket, Connection, tap_packets}
use Rattle.aud_client.specs.Stays.{namespace}
use Rattle.aud_client.specs.StaySeen.{StaySeen, reply_at, ask_of, frame_of}
use Rattle.aud_client.specs.PlacedStays.{PlacedPacket}
use Rattle.aud_client.specs.StayPlaces.{PlacesSeen}

-- the packets of a tap, each with the number of its record
abbrev pub placed_packets : List ClientRec → List PlacedPacket
placed_packets recs = flat_map (λ (connection : Connection). connection.packets) (tap_packets recs).connections

-- a packet that is whole at the record with this number gives this
pub record GivesAt {X : Type 0} (placed : List PlacedPacket) (gives : TapPacket → Option X) (number : ℕ) (x : X) : Type 0 where
  pub packet : TapPacket
  pub stands : Contains placed (number, packet)
  pub gives_it : gives packet ≡ Some x

-- there is a number where there is something, and a packet at that record gives it
abbrev pub MayGiveAt : {X : Type 0} → List PlacedPacket → (TapPacket → Option X) → Option ℕ → Option X → Type 0
MayGiveAt placed gives None None = Unit {0}
MayGiveAt placed gives None (Some x) = ⊥
MayGiveAt placed gives (Some number) None = ⊥
MayGiveAt placed gives (Some number) (Some x) = GivesAt placed gives number x

-- a packet of this namespace is whole at the record with this number
pub record StandsAt (placed : List PlacedPacket) (number : ℕ) (nsp : Text) : Type 0 where
  pub packet : TapPacket
  pub stands : Contains placed (number, packet)
  pub is_in : namespace packet ≡ nsp

-- the records are those of the stay, in a tap with these packets, where this is the stream: a packet of its namespace
-- stands at the first, and one at the last; there are as many frames; and what stands at each record gives the frame,
-- what was asked, the reply
pub record AreRecordsOf (stream : List StreamRec) (placed : List PlacedPacket) (places : PlacesSeen) (stay : StaySeen) : Type 0 where
  pub first_is : StandsAt placed places.first stay.nsp
  pub last_is : StandsAt placed places.last stay.nsp
  pub frames_are : AllZip (GivesAt placed (frame_of stream)) places.frames stay.frames
  pub ask_is : MayGiveAt placed ask_of places.ask stay.asked
  pub reply_is : MayGiveAt placed reply_at places.reply stay.reply
