-- What the code keeps of the stays while it goes through the packets.
use Rattle.std.specs.Prelude.{◌≡◌, ℕ, ◌+◌, false, ◌&&◌, ◌||◌, List, [], ◌∷◌, ◌++◌, map, length, Option, Some, None, if◌then◌else◌, slice_get, is_some}
use Rattle.std.specs.List.{cons_option}
use Rattle.std.specs.Option.{option_map, option_and_then, option_or}
use Rattle.std.specs.Ordering.{nat_cmp}
use Rattle.std.specs.Str.{bytes_eq}
use Rattle.std.specs.Cmp.Lexicographic.{slice_cmp}
use Rattle.std.specs.BTreeMap as tree
use Rattle.aud_tap.specs.declared.records.StreamRec.{StreamRec}
use Rattle.aud_node.specs.Stream.{Text}
use Rattle.aud_client.specs.TapPackets.{TapPacket}
use Rattle.aud_client.specs.declared.part.Part.{Part}
use Rattle.aud_client.specs.declared.part.Part.TheVariants.{Ask, Reply, Frame, Other}
use Rattle.aud_client.specs.declared.stays.Stays.{Stays}
use Rattle.aud_client.specs.Stays.{namespace, is_connect, is_disconnect, stays}
use Rattle.aud_client.specs.Open.{open_place}
use Rattle.aud_client.specs.Entries.{FrameSeen, has_altered}
use Rattle.aud_client.specs.StaySeen.{StaySeen, stay_of, reply_at, ask_of, frame_of}
use Rattle.aud_client.specs.PlacedStays.{PlacedPacket, forgotten, placed_stays}
use Rattle.aud_client.specs.StayPlaces.{PlacesSeen, record_of, places_of}

-- what is known of a stay without packets
abbrev pub empty_stay : ℕ → Text → StaySeen
empty_stay c nsp = record { c = c; nsp = nsp; reply = None; asked = None; frames = []; altered = false }

-- what is known of a stay, with one packet more
abbrev pub grown : List StreamRec → StaySeen → TapPacket → StaySeen
grown stream t p =
    record {
      c = t.c;
      nsp = t.nsp;
      reply = option_or (reply_at p) t.reply;
      asked = option_or (ask_of p) t.asked;
      frames = t.frames ++ cons_option (frame_of stream p) [];
      altered = t.altered || has_altered stream (cons_option (frame_of stream p) []);
    }

-- a stay with the frame more, if there is one
abbrev pub with_frame : List StreamRec → StaySeen → Option FrameSeen → StaySeen
with_frame stream t frame =
    record t { frames = t.frames ++ cons_option frame []; altered = t.altered || has_altered stream (cons_option frame []) }

-- what a packet is to its stay that is this frame, if it is one
abbrev pub frame_part : Option FrameSeen → Part
frame_part frame = if is_some frame then Frame else Other

-- what a packet is to its stay
abbrev pub part_of : List StreamRec → TapPacket → Part
part_of stream p =
    if is_some (reply_at p) then Reply else if is_some (ask_of p) then Ask else if is_some (frame_of stream p) then Frame else Other

-- the records of a stay without packets, the first of which will stand at this record
abbrev pub no_places : ℕ → PlacesSeen
no_places first = record { first = first; last = first; ask = None; reply = None; frames = [] }

-- the ask that counts, after one packet more: none after the reply
abbrev pub ask_after : PlacesSeen → PlacedPacket → Option ℕ
ask_after t q = if is_some t.reply then t.ask else option_or (record_of ask_of q) t.ask

-- the records of a stay, with one packet more
abbrev pub grown_places : List StreamRec → PlacesSeen → PlacedPacket → PlacesSeen
grown_places stream t q =
    record {
      first = t.first;
      last = q.0;
      ask = ask_after t q;
      reply = option_or t.reply (record_of reply_at q);
      frames = t.frames ++ cons_option (record_of (frame_of stream) q) [];
    }

-- the same, by what the packet at the record is to the stay
abbrev pub with_part : PlacesSeen → ℕ → Part → PlacesSeen
with_part t number Ask = record t { last = number; ask = if is_some t.reply then t.ask else Some number }
with_part t number Reply = record t { last = number; reply = option_or t.reply (Some number) }
with_part t number Frame = record t { last = number; frames = t.frames ++ number ∷ [] }
with_part t number Other = record t { last = number }

-- the place that is kept for the namespace
abbrev pub open_at : Stays → Text → Option ℕ
open_at st n = tree.get_by (λ k. slice_cmp nat_cmp n k.now) st.open

abbrev pub unless_replied : TapPacket → ℕ → StaySeen → Option ℕ
unless_replied p k s = if is_connect p && is_some s.reply then None else Some k

-- the place of the stay that the packet goes on with
abbrev pub place_for : Stays → TapPacket → Option ℕ
place_for st p = option_and_then (λ k. option_and_then (unless_replied p k) (slice_get st.stays.items k)) (open_at st (namespace p))

-- in the packet's namespace the stay at the place goes on, unless the packet ends it
abbrev pub BeginsAt : TapPacket → ℕ → Stays → Stays → Type 0
BeginsAt p place old new = (n : Text)
    → open_at new n ≡ (if bytes_eq (namespace p) n then (if is_disconnect p then None else Some place) else open_at old n)

-- in the packet's namespace the stay that went on does so still, unless the packet ends it
abbrev pub GoesOn : TapPacket → Stays → Stays → Type 0
GoesOn p old new = (n : Text)
    → open_at new n ≡ (if bytes_eq (namespace p) n then (if is_disconnect p then None else open_at old n) else open_at old n)

-- the stays of earlier connections, and those of this one's packets so far
pub record KeepsStays (stream : List StreamRec) (c : ℕ) (st : Stays) (done : List StaySeen) (packets : List TapPacket) : Type 0 where
  pub stays_are : st.stays.items ≡ done ++ map (stay_of stream c) (stays packets)
  pub open_are : (n : Text) → open_at st n ≡ option_map (λ k. length done + k) (open_place n packets)

-- the same, and their records, of packets at theirs
pub record Keeps (stream : List StreamRec) (c : ℕ) (st : Stays) (done : List StaySeen) (told : List PlacesSeen) (packets : List PlacedPacket) : Type 0 where
  pub keeps_stays : KeepsStays stream c st done (forgotten packets)
  pub places_are : st.places.items ≡ told ++ map (places_of stream) (placed_stays packets)
  pub as_many : length told ≡ length done
