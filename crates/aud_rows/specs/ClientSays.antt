-- What the records of a client's tap say: what the packets say that are whole there.
use Rattle.std.specs.Prelude.{◌≡◌, ◌<◌, ℕ, List, Option, Some, slice_get, take}
use Rattle.std.specs.List.{Contains}
use Rattle.std.specs.Option.{option_map}
use Rattle.aud_tap.specs.declared.records.StreamRec.{StreamRec}
use Rattle.aud_tap.specs.declared.records.ClientRec.{ClientRec}
use Rattle.aud_tap.specs.declared.records.ClientRec.TheVariants as tap
use Rattle.aud_node.specs.Stream.{Text, entry, offset_of}
use Rattle.aud_client.specs.TapPackets.{TapPacket, Connection, tap_packets}
use Rattle.aud_client.specs.StaySeen.{FrameSeen, ask_of, reply_at, frame_of}
use Rattle.aud_client.specs.PlacedStays.{PlacedPacket, placed_stays}
use Rattle.aud_client.specs.AreRecordsOf.{GivesAt}
use Rattle.aud_rows.specs.Seen.{SaysSeen, Asks, Reply, Got, Lost, Lacks, NoPacket}
use Rattle.aud_rows.specs.Lacking.{last_text, messages_before, messages_in, missing_at_text}
use Rattle.aud_rows.specs.Marks.{open_before}

-- in a connection with this number, a packet of a stay is whole at the record with this number, and gives this
pub record GivesIn {X : Type 0} (recs : List ClientRec) (gives : TapPacket → Option X) (conn number : ℕ) (x : X) : Type 0 where
  pub connection : Connection
  pub stay : List PlacedPacket
  pub is_there : Contains (tap_packets recs).connections connection
  pub is_numbered : connection.c ≡ conn
  pub is_stay : Contains (placed_stays connection.packets) stay
  pub gives_it : GivesAt stay gives number x

-- a packet there is an event of the stream: of the entry at this position, which has this offset
pub record Gets (stream : List StreamRec) (recs : List ClientRec) (conn number position : ℕ) (off : Text) : Type 0 where
  pub frame : FrameSeen
  pub gives_it : GivesIn recs (frame_of stream) conn number frame
  pub is_of : frame.position ≡ position
  pub has_offset : option_map offset_of (entry stream position) ≡ Some off

-- the record with this number has the last text, in a connection with this number, before that of a later record, the
-- tap's first that is no packet; and when that comes, so many attachments of its packet are missing
pub record IsSpoiled (recs : List ClientRec) (conn number missing : ℕ) : Type 0 where
  pub by : ℕ
  pub awaited : ℕ
  pub is_bad : (tap_packets recs).bad ≡ Some by
  pub is_last : last_text (messages_before (take by recs)) ≡ Some (number, awaited)
  pub lacks : missing_at_text awaited (messages_in (slice_get recs by)) ≡ missing
  pub lacks_some : 0 < missing
  pub is_later : number < by
  pub is_numbered : open_before recs by ≡ Some conn

-- the record with this number of a client's tap says this, where this is the stream: by a CONNECT that asks for a
-- session; by the server's answer to a CONNECT; by an event of the stream; it loses the connection that goes on there;
-- by a packet that lacks attachments; it is the tap's first that is no packet
abbrev pub ClientSays : List StreamRec → List ClientRec → ℕ → SaysSeen → Type 0
ClientSays stream recs number (Asks conn pid off) = GivesIn recs ask_of conn number (record { pid = pid; offset = off })
ClientSays stream recs number (Reply conn sid pid) = GivesIn recs reply_at conn number (record { pid = pid; sid = sid })
ClientSays stream recs number (Got conn position off) = Gets stream recs conn number position off
ClientSays stream recs number (Lost conn) = (slice_get recs number ≡ Some tap.Lost) × (open_before recs number ≡ Some conn)
ClientSays stream recs number (Lacks conn missing) = IsSpoiled recs conn number missing
ClientSays stream recs number (NoPacket conn) = ((tap_packets recs).bad ≡ Some number) × (open_before recs number ≡ Some conn)
ClientSays stream recs number _ = ⊥
