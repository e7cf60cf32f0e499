-- The records at which the packets of a stay stand.
use Rattle.std.specs.Prelude.{ℕ, List, [], ◌∷◌, map, flat_map, Option, Some, None, unwrap_or, if◌then◌else◌}
use Rattle.std.specs.List.{filter_map}
use Rattle.std.specs.Option.{option_map}
use Rattle.aud_tap.specs.declared.records.StreamRec.{StreamRec}
use Rattle.aud_tap.specs.declared.records.ClientRec.{ClientRec}
use Rattle.aud_client.specs.TapPackets.{TapPacket, Connection, first_of, tap_packets}
use Rattle.aud_client.specs.Stays.{is_reply}
use Rattle.aud_client.specs.StaySeen.{reply_at, ask_of, frame_of}
use Rattle.aud_client.specs.PlacedStays.{PlacedPacket, placed_stays}

-- the records of a stay: of its first packet and of its last, of the ask that counts and of the reply, and of each frame
pub record PlacesSeen : Type 0 where
  pub first : ℕ
  pub last : ℕ
  pub ask : Option ℕ
  pub reply : Option ℕ
  pub frames : List ℕ

-- the record of a packet, if it gives something of this kind
abbrev pub record_of : {X : Type 0} → (TapPacket → Option X) → PlacedPacket → Option ℕ
record_of gives q = option_map (λ x. q.0) (gives q.1)

-- the records of the packets that give something of this kind, in their order
abbrev pub records_of : {X : Type 0} → (TapPacket → Option X) → List PlacedPacket → List ℕ
records_of gives placed = filter_map (record_of gives) placed

-- the last number
abbrev pub last_number : List ℕ → Option ℕ
last_number [] = None
last_number (number ∷ []) = Some number
last_number (number ∷ next ∷ numbers) = last_number (next ∷ numbers)

-- the packets in front of the reply
abbrev pub placed_before_reply : List PlacedPacket → List PlacedPacket
placed_before_reply [] = []
placed_before_reply (q ∷ placed) = if is_reply q.1 then [] else q ∷ placed_before_reply placed

-- the record of each packet
abbrev pub numbers_in : List PlacedPacket → List ℕ
numbers_in placed = map (λ (q : ℕ × TapPacket). q.0) placed

-- the records of a stay of these packets, where this is the stream; a stay has a packet
abbrev pub places_of : List StreamRec → List PlacedPacket → PlacesSeen
places_of stream stay =
    record {
      first = unwrap_or (first_of (numbers_in stay)) 0;
      last = unwrap_or (last_number (numbers_in stay)) 0;
      ask = last_number (records_of ask_of (placed_before_reply stay));
      reply = first_of (records_of reply_at stay);
      frames = records_of (frame_of stream) stay;
    }

-- the records of the stays of a connection
abbrev pub places_in : List StreamRec → Connection → List PlacesSeen
places_in stream connection = map (places_of stream) (placed_stays connection.packets)

-- the records of the stays of a client's tap, connection after connection
abbrev pub tap_places : List StreamRec → List ClientRec → List PlacesSeen
tap_places stream recs = flat_map (places_in stream) (tap_packets recs).connections
