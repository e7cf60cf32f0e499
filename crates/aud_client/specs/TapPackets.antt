-- The packets of a client tap: what its records carry, connection by connection.
use Rattle.std.specs.Prelude.{ℕ, suc, List, [], ◌∷◌, Bool, true, false, map, flat_map, Option, Some, None, Result, Ok, Err, if◌then◌else◌, nat_eq, ◌&&◌, ◌||◌}
use Rattle.std.specs.List.{filter, list_any}
use Rattle.aud_tap.specs.declared.records.ClientRec.{ClientRec}
use Rattle.aud_tap.specs.declared.records.ClientRec.TheVariants.{Conn, TextIn, BytesIn, Poll, TextOut, Lost}
use Rattle.aud_eio.specs.declared.packet.EioFault.{EioFault}
use Rattle.aud_eio.specs.Packet as eio
use Rattle.aud_eio.specs.Body.{engine_packets_of}
use Rattle.aud_sio.specs.declared.fault.SioFault.{SioFault}
use Rattle.aud_sio.specs.declared.kind.PacketKind.{PacketKind}
use Rattle.aud_sio.specs.declared.kind.PacketKind.TheVariants.{Connect, Disconnect}
use Rattle.aud_sio.specs.Packet.{PacketSeen, packet_of}
use Rattle.aud_sio.specs.Message.{Message, messages_of, at}
use Rattle.aud_sio.specs.Wholes.{WholeSeen, Answer, wholes_of}

-- a packet of a connection: whole, from the server; or a CONNECT or a DISCONNECT of the client
pub data TapPacket : Type 0 where
  FromServer : WholeSeen → TapPacket
  FromClient : PacketSeen → TapPacket

-- a connection: its number, and its packets, each with the number of the record that it stands at
pub record Connection : Type 0 where
  pub c : ℕ
  pub packets : List (ℕ × TapPacket)

-- what a tap gives: its connections, and the number of the first record that doesn't decode
pub record TapPackets : Type 0 where
  pub connections : List Connection
  pub bad : Option ℕ

-- ---- the records of a connection

-- the records with their numbers, from this number on
abbrev pub numbered_records : ℕ → List ClientRec → List (ℕ × ClientRec)
numbered_records number [] = []
numbered_records number (rec ∷ recs) = (number, rec) ∷ numbered_records (suc number) recs

-- the records before the next `conn` or `lost`
abbrev pub until_end : List (ℕ × ClientRec) → List (ℕ × ClientRec)
until_end [] = []
until_end ((number, Conn c) ∷ recs) = []
until_end ((number, Lost) ∷ recs) = []
until_end (rec ∷ recs) = rec ∷ until_end recs

-- each `conn` begins a connection, of the records after it up to the next `conn` or `lost`
abbrev pub connections_in : List (ℕ × ClientRec) → List (ℕ × List (ℕ × ClientRec))
connections_in [] = []
connections_in ((number, Conn c) ∷ recs) = (c, until_end recs) ∷ connections_in recs
connections_in (rec ∷ recs) = connections_in recs

-- ---- what a record carries

abbrev pub one_of : Result eio.Packet EioFault → Result (List eio.Packet) EioFault
one_of (Ok packet) = Ok (packet ∷ [])
one_of (Err fault) = Err fault

-- the Engine.IO packets of a record from the server, or why it has none
abbrev pub engine_packets : ClientRec → Result (List eio.Packet) EioFault
engine_packets (TextIn t) = one_of (eio.engine_packet_of t)
engine_packets (BytesIn b) = Ok (eio.Lent b ∷ [])
engine_packets (Poll t) = engine_packets_of t
engine_packets _ = Ok []

abbrev pub messages_or_none : ℕ → Result (List eio.Packet) EioFault → List (ℕ × Message)
messages_or_none number (Ok packets) = at number (flat_map messages_of packets)
messages_or_none number (Err fault) = []

-- the messages of a record from the server, each at the record's number; none where the record is refused
abbrev pub messages_at : (ℕ × ClientRec) → List (ℕ × Message)
messages_at (number, rec) = messages_or_none number (engine_packets rec)

-- what the messages of a connection give: whole packets and refusals, each at the record of the last message consumed
abbrev pub answers_in : List (ℕ × ClientRec) → List (ℕ × Answer)
answers_in recs = wholes_of (flat_map messages_at recs)

-- ---- what the client sends

-- a CONNECT or a DISCONNECT; everything else is read past
abbrev pub is_connection_kind : PacketKind → Bool
is_connection_kind Connect = true
is_connection_kind Disconnect = true
is_connection_kind _ = false

abbrev pub client_packet : Result PacketSeen SioFault → List TapPacket
client_packet (Ok packet) = if is_connection_kind packet.kind then FromClient packet ∷ [] else []
client_packet (Err fault) = []

abbrev pub client_packet_in : Result eio.Packet EioFault → List TapPacket
client_packet_in (Ok (eio.Message text)) = client_packet (packet_of text)
client_packet_in _ = []

-- ---- the packets of a connection, and its bad records

abbrev pub server_packets : ℕ → List (ℕ × Answer) → List TapPacket
server_packets number [] = []
server_packets number ((place, Ok whole) ∷ answers) = if nat_eq place number then FromServer whole ∷ server_packets number answers else server_packets number answers
server_packets number ((place, Err fault) ∷ answers) = server_packets number answers

-- the packets that stand at a record: of the client's, its own; of the server's, those that are whole there
abbrev pub packets_at : List (ℕ × Answer) → (ℕ × ClientRec) → List (ℕ × TapPacket)
packets_at answers (number, TextOut t) = at number (client_packet_in (eio.engine_packet_of t))
packets_at answers (number, rec) = at number (server_packets number answers)

abbrev pub is_refused : {A E : Type 0} → Result A E → Bool
is_refused (Ok x) = false
is_refused (Err e) = true

-- the record is no Engine.IO packet, or a refusal of its messages stands at it
abbrev pub is_bad : List (ℕ × Answer) → (ℕ × ClientRec) → Bool
is_bad answers (number, rec) =
    is_refused (engine_packets rec) || list_any (λ (answer : ℕ × Answer). nat_eq answer.0 number && is_refused answer.1) answers

abbrev pub packets_in : List (ℕ × ClientRec) → List (ℕ × TapPacket)
packets_in recs = flat_map (packets_at (answers_in recs)) recs

abbrev pub bad_in : List (ℕ × ClientRec) → List ℕ
bad_in recs = map (λ (rec : ℕ × ClientRec). rec.0) (filter (is_bad (answers_in recs)) recs)

abbrev pub first_of : List ℕ → Option ℕ
first_of [] = None
first_of (number ∷ numbers) = Some number

-- the packets of a tap, and its first bad record
abbrev pub tap_packets : List ClientRec → TapPackets
tap_packets recs =
    record {
      connections = map (λ (cut : ℕ × List (ℕ × ClientRec)). record { c = cut.0; packets = packets_in cut.1 }) (connections_in (numbered_records 0 recs));
      bad = first_of (flat_map (λ (cut : ℕ × List (ℕ × ClientRec)). bad_in cut.1) (connections_in (numbered_records 0 recs)));
    }
