-- What a CONNECT from the server tells: its answer to a client that connects to a namespace (Socket.IO protocol 5,
-- "Connection to a namespace"; of connection state recovery, the `pid`).
use Rattle.std.specs.Prelude.{ℕ, List, [], codes, length, Bool, true, false, Option, Some, None, unwrap_or, slice_get, if◌then◌else◌}
use Rattle.std.specs.Option.{option_and_then}
use Rattle.std.specs.List.{filter, list_any}
use Rattle.std.specs.Str.{bytes_eq}
use Rattle.serde_json.specs.Data.{Data}
use Rattle.serde_json.specs.Read.{read}
use Rattle.aud_tap.specs.Forms.{passing}
use Rattle.aud_tap.specs.Json.{text_at}
use Rattle.aud_tap.specs.WellFormed.{is_session_id}
use Rattle.aud_tap.specs.declared.records.ClientRec.{ClientRec}
use Rattle.aud_tap.specs.declared.taps.Tap.{Tap}
use Rattle.aud_sio.specs.declared.kind.PacketKind.{PacketKind}
use Rattle.aud_sio.specs.declared.kind.PacketKind.TheVariants.{Connect}
use Rattle.aud_sio.specs.Wholes.{WholeSeen}
use Rattle.aud_base.specs.Lists.{numbers_from}
use Rattle.aud_node.specs.Stream.{Text}
use Rattle.aud_node.specs.NodeTaps.{client_recs}
use Rattle.aud_client.specs.TapPackets.{TapPacket, FromServer, FromClient, Connection, tap_packets}

-- the session that a reply names, if it names one, and the session's sid
pub record ReplySeen : Type 0 where
  pub pid : Option Text
  pub sid : Text

-- the `pid` of an object, where it is a text of the bytes and the length of a pid
abbrev pub pid_in : Data → Option Text
pid_in json = option_and_then (passing is_session_id) (text_at (codes "pid") json)

-- the `sid` of an object; the empty text where it is missing or no text
abbrev pub sid_in : Data → Text
sid_in json = unwrap_or (text_at (codes "sid") json) []

-- what the value of a payload tells: nothing, where there is none
abbrev pub reply_in_value : Option Data → ReplySeen
reply_in_value None = record { pid = None; sid = [] }
reply_in_value (Some json) = record { pid = pid_in json; sid = sid_in json }

-- the value of a payload, where there is one
abbrev pub value_of : Option Text → Option Data
value_of payload = option_and_then read payload

-- the packet is a CONNECT
abbrev pub is_connect_kind : PacketKind → Bool
is_connect_kind Connect = true
is_connect_kind _ = false

-- the reply that a packet of the server is, if it is a CONNECT
abbrev pub reply_in : WholeSeen → Option ReplySeen
reply_in whole = if is_connect_kind whole.packet.kind then Some (reply_in_value (value_of whole.packet.payload)) else None

-- ---- the replies of a tap

-- there is a pid, and it is this one
abbrev pub is_this : Text → Option Text → Bool
is_this pid None = false
is_this pid (Some other) = bytes_eq other pid

-- there is a reply, and it names the pid
abbrev pub reply_names : Text → Option ReplySeen → Bool
reply_names pid None = false
reply_names pid (Some reply) = is_this pid reply.pid

-- the packet is a reply that names the pid
abbrev pub packet_names : Text → TapPacket → Bool
packet_names pid (FromServer whole) = reply_names pid (reply_in whole)
packet_names pid (FromClient packet) = false

-- a packet of the connection is a reply that names the pid
abbrev pub connection_names : Text → Connection → Bool
connection_names pid connection = list_any (λ (placed : ℕ × TapPacket). packet_names pid placed.1) connection.packets

-- a packet of the tap is a reply that names the pid
abbrev pub tap_names : Text → List ClientRec → Bool
tap_names pid recs = list_any (connection_names pid) (tap_packets recs).connections

-- ---- the client taps of a cluster

-- there is a client's tap, and it names the pid
abbrev pub is_naming : Text → Option (List ClientRec) → Bool
is_naming pid None = false
is_naming pid (Some recs) = tap_names pid recs

-- the places, ascending, of the client taps that name the pid
abbrev pub naming_places : List Tap → Text → List ℕ
naming_places taps pid = filter (λ place. is_naming pid (option_and_then client_recs (slice_get taps place))) (numbers_from 0 (length taps))
