-- What a stay tells.
use Rattle.std.specs.Prelude.{◌≡◌, ℕ, Bool, List, [], ◌∷◌, codes, map, ◌&&◌, Option, Some, None, is_none, if◌then◌else◌}
use Rattle.std.specs.List.{filter_map}
use Rattle.std.specs.Option.{option_map, option_and_then}
use Rattle.serde_json.specs.Data.{Data}
use Rattle.aud_tap.specs.Forms.{passing}
use Rattle.aud_tap.specs.Json.{text_at}
use Rattle.aud_tap.specs.declared.records.StreamRec.{StreamRec}
use Rattle.aud_sio.specs.Message.{blob_bytes}
use Rattle.aud_sio.specs.Packet.{PacketSeen}
use Rattle.aud_sio.specs.Wholes.{WholeSeen}
use Rattle.aud_node.specs.Stream.{Text, position}
use Rattle.aud_node.specs.Recoverable.{is_event}
use Rattle.aud_node.specs.AtPosition.{is_recoverable_at}
use Rattle.aud_client.specs.TapPackets.{TapPacket, FromServer, FromClient}
use Rattle.aud_client.specs.Replies.{ReplySeen, reply_in, value_of, is_connect_kind}
use Rattle.aud_client.specs.Stays.{namespace, is_reply}
use Rattle.aud_client.specs.Entries.{has_altered}
pub use Rattle.aud_client.specs.Entries.{FrameSeen}

-- what a client asks to recover: a session, and after which offset
pub record AskedSeen : Type 0 where
  pub pid : Text
  pub offset : Option Text

-- what is known of a stay; c is the number of its connection, and `altered` whether one of the frames isn't its entry
pub record StaySeen : Type 0 where
  pub c : ℕ
  pub nsp : Text
  pub reply : Option ReplySeen
  pub asked : Option AskedSeen
  pub frames : List FrameSeen
  pub altered : Bool

-- ---- the reply

-- the reply that a packet is
abbrev pub reply_at : TapPacket → Option ReplySeen
reply_at (FromServer whole) = reply_in whole
reply_at (FromClient packet) = None

-- the reply of a stay: its CONNECT from the server
abbrev pub reply_of : List TapPacket → Option ReplySeen
reply_of [] = None
reply_of (p ∷ ps) = if is_reply p then reply_at p else reply_of ps

-- the packets in front of the reply
abbrev pub before_reply : List TapPacket → List TapPacket
before_reply [] = []
before_reply (p ∷ ps) = if is_reply p then [] else p ∷ before_reply ps

-- ---- what was asked

-- what an object with a text `pid` asks for; the `offset` where it is a text
abbrev pub asked_by : Data → Option AskedSeen
asked_by json = option_map (λ pid. record { pid = pid; offset = text_at (codes "offset") json }) (text_at (codes "pid") json)

-- what a packet of the client asks for, if it is a CONNECT
abbrev pub asked_in : PacketSeen → Option AskedSeen
asked_in packet = if is_connect_kind packet.kind then option_and_then asked_by (value_of packet.payload) else None

abbrev pub ask_of : TapPacket → Option AskedSeen
ask_of (FromServer whole) = None
ask_of (FromClient packet) = asked_in packet

abbrev pub last_of : List AskedSeen → Option AskedSeen
last_of [] = None
last_of (x ∷ []) = Some x
last_of (x ∷ y ∷ ys) = last_of (y ∷ ys)

-- the last CONNECT of the client before the reply that asks for a session
abbrev pub asked_of : List TapPacket → Option AskedSeen
asked_of stay = last_of (filter_map ask_of (before_reply stay))

-- ---- the frames

-- the position of the recoverable entry that has the offset
abbrev pub recoverable_position : List StreamRec → Text → Option ℕ
recoverable_position stream off = option_and_then (passing (is_recoverable_at stream)) (position stream off)

-- the text at the end of an event that asks for no acknowledgement
abbrev pub offset_in : PacketSeen → Option Text
offset_in packet = if is_event packet.kind && is_none packet.id then packet.last else None

abbrev pub frame_at : WholeSeen → ℕ → FrameSeen
frame_at whole p = record { position = p; text = whole.text; bin = map blob_bytes whole.bin }

-- the frame that a packet of the server is: an event that ends in the offset of a recoverable entry
abbrev pub frame_of : List StreamRec → TapPacket → Option FrameSeen
frame_of stream (FromServer whole) = option_map (frame_at whole) (option_and_then (recoverable_position stream) (offset_in whole.packet))
frame_of stream (FromClient packet) = None

-- the frames of packets, before the reply or after it
abbrev pub frames_of : List StreamRec → List TapPacket → List FrameSeen
frames_of stream packets = filter_map (frame_of stream) packets

-- ---- all of it

abbrev pub namespace_of : List TapPacket → Text
namespace_of [] = []
namespace_of (p ∷ ps) = namespace p

-- what a stay in the connection with this number tells
abbrev pub stay_of : List StreamRec → ℕ → List TapPacket → StaySeen
stay_of stream c stay =
    record {
      c = c;
      nsp = namespace_of stay;
      reply = reply_of stay;
      asked = asked_of stay;
      frames = frames_of stream stay;
      altered = has_altered stream (frames_of stream stay);
    }

-- the stay tells truly, where this is the stream, whether one of its frames isn't its entry
abbrev pub TellsAltered : List StreamRec → StaySeen → Type 0
TellsAltered stream stay = stay.altered ≡ has_altered stream stay.frames
