-- What a client received: the stays of all connections of its tap, and the received list of a session.
use Rattle.std.specs.Prelude.{ℕ, Bool, true, false, not, ◌&&◌, List, [], ◌∷◌, ◌++◌, length, map, flat_map, Option, Some, None, is_some, if◌then◌else◌, option_map, slice_get}
use Rattle.std.specs.List.{filter, filter_map, list_any, list_all}
use Rattle.std.specs.Option.{option_map_or}
use Rattle.std.specs.Str.{bytes_eq}
use Rattle.aud_base.specs.Places.{places_where}
use Rattle.aud_tap.specs.declared.records.StreamRec.{StreamRec}
use Rattle.aud_tap.specs.declared.records.ClientRec.{ClientRec}
use Rattle.aud_node.specs.Stream.{Text}
use Rattle.aud_client.specs.TapPackets.{TapPacket, Connection, tap_packets}
use Rattle.aud_client.specs.Replies.{ReplySeen, reply_names}
use Rattle.aud_client.specs.Stays.{stays, stay_at}
use Rattle.aud_client.specs.StaySeen.{AskedSeen, FrameSeen, StaySeen, stay_of, reply_of, frames_of}
use Rattle.aud_client.specs.StayPlaces.{PlacesSeen, tap_places}
use Rattle.aud_node.specs.Cluster.{Cluster}
use Rattle.aud_node.specs.NodeTaps.{client_at}

-- what a tap tells: the number of its first record that doesn't decode, whether it has an orphan, its stays, and the
-- records at which the packets of each stand
pub record TranscriptSeen : Type 0 where
  pub bad : Option ℕ
  pub orphan : Bool
  pub stays : List StaySeen
  pub places : List PlacesSeen

-- ---- stays

-- the packets, without the records that they stand at
abbrev pub connection_packets : Connection → List TapPacket
connection_packets connection = map (λ (placed : ℕ × TapPacket). placed.1) connection.packets

abbrev pub stays_of : List StreamRec → Connection → List StaySeen
stays_of stream connection = map (stay_of stream connection.c) (stays (connection_packets connection))

-- the stays of the tap, connection after connection
abbrev pub tap_stays : List StreamRec → List ClientRec → List StaySeen
tap_stays stream recs = flat_map (stays_of stream) (tap_packets recs).connections

-- whether the reply names a session
abbrev pub names_somebody : Option ReplySeen → Bool
names_somebody None = false
names_somebody (Some reply) = is_some reply.pid

abbrev pub has_frame : List FrameSeen → Bool
has_frame [] = false
has_frame (frame ∷ frames) = true

-- a frame in a stay whose reply names nobody, or that has no reply
abbrev pub is_orphan : StaySeen → Bool
is_orphan stay = not (names_somebody stay.reply) && has_frame stay.frames

-- what the tap tells, where this is the stream
abbrev pub transcript_of : List StreamRec → List ClientRec → TranscriptSeen
transcript_of stream recs =
    record {
      bad = (tap_packets recs).bad;
      orphan = list_any is_orphan (tap_stays stream recs);
      stays = tap_stays stream recs;
      places = tap_places stream recs;
    }

-- ---- sessions

-- the stay's reply names the session
abbrev pub stay_names_pid : Text → StaySeen → Bool
stay_names_pid pid stay = reply_names pid stay.reply

abbrev pub asked_for_reply : Option AskedSeen → Option ReplySeen → Bool
asked_for_reply None reply = false
asked_for_reply (Some asked) reply = reply_names asked.pid reply

-- the stay was asked with the pid that its reply names
abbrev pub is_recovered : StaySeen → Bool
is_recovered stay = asked_for_reply stay.asked stay.reply

abbrev pub stays_naming : Text → List StaySeen → List StaySeen
stays_naming pid ss = filter (stay_names_pid pid) ss

-- the numbers, ascending, of those stays; stays count from 0
abbrev pub numbers_naming : Text → List StaySeen → List ℕ
numbers_naming pid ss = places_where (λ k. option_map_or (stay_names_pid pid) (slice_get ss k) false) (length ss)

-- the stays with these numbers, which count from 0
abbrev pub stays_numbered : List StaySeen → List ℕ → List StaySeen
stays_numbered ss numbers = filter_map (slice_get ss) numbers

-- all of these stays are in the namespace
abbrev pub are_in_namespace : Text → List StaySeen → Bool
are_in_namespace nsp ss = list_all (λ stay. bytes_eq stay.nsp nsp) ss

-- the frames of the stays that name the session, stay after stay
abbrev pub frames_by_stay : Text → List StaySeen → List FrameSeen
frames_by_stay pid ss = flat_map (λ stay. stay.frames) (stays_naming pid ss)

-- ---- the received list, by place

-- the packet is a frame in a stay whose reply names the session
abbrev pub frames_at : List StreamRec → Text → List TapPacket → TapPacket → List TapPacket → List FrameSeen
frames_at stream pid before p after = if reply_names pid (reply_of (stay_at before p after)) then frames_of stream (p ∷ []) else []

-- the frames after these packets whose stay names the session, in the order of the tap
abbrev pub received_from : List StreamRec → Text → List TapPacket → List TapPacket → List FrameSeen
received_from stream pid before [] = []
received_from stream pid before (p ∷ after) =
    frames_at stream pid before p after ++ received_from stream pid (before ++ p ∷ []) after

-- the received list of a session: the frames of the tap, in its order, whose stay names the session
abbrev pub received_list : List StreamRec → List ClientRec → Text → List FrameSeen
received_list stream recs pid = flat_map (λ connection. received_from stream pid [] (connection_packets connection)) (tap_packets recs).connections

-- what the tap at this place tells, if it is a client's
abbrev pub transcript_at : Cluster → ℕ → Option TranscriptSeen
transcript_at c place = option_map (transcript_of c.stream) (client_at c place)
