-- What is written of a session, and what becomes of it.
use Rattle.std.specs.Prelude.{ℕ, List, Option, Some, None}
use Rattle.std.specs.Option.{option_map_or}
use Rattle.std.specs.FinSet as set
use Rattle.aud_tap.specs.declared.records.ClientRec.TheVariants.{Conn, TextIn, TextOut, Lost}
use Rattle.aud_tap.specs.declared.records.NodeRec.{NodeRec}
use Rattle.aud_tap.specs.declared.records.NodeRec.TheVariants.{Opened}
use Rattle.aud_tap.specs.declared.records.Rec.TheVariants as rec
use Rattle.aud_rooms.specs.Rooms.{own_room}
use Rattle.aud_sim.specs.declared.client.At.TheVariants as at
use Rattle.aud_sim.specs.declared.client.Session.{Session}
use Rattle.aud_sim.specs.declared.client.Client.{Client}
use Rattle.aud_sim.specs.declared.client.Reply.{Reply}
use Rattle.aud_sim.specs.declared.client.Reply.TheVariants.{Own, OtherSid, Missing}
use Rattle.aud_sim.specs.declared.client.Asked.{Asked}
use Rattle.aud_sim.specs.declared.client.Asked.TheVariants.{LastReceived, Unknown}
use Rattle.aud_sim.specs.Bundle.{Lines, with_line}
use Rattle.aud_sim.specs.Clients.{fault_after_connection, next_number, next_turn}
use Rattle.aud_sim.specs.Nodes.{NodeState, place_after_break}
use Rattle.aud_sim.specs.Texts.{name_of, main_namespace, reply_text, asking_text, message}
use Rattle.std.specs.Prelude.{codes}

-- ---- lines

-- a session begins on a node
abbrev pub with_opened : List ℕ → Session → Lines → Lines
with_opened node session lines = with_line node (rec.Node (Opened session.pid session.sid main_namespace)) lines

-- a connection of the client begins, with this number
abbrev pub with_connection : List ℕ → ℕ → Lines → Lines
with_connection client number lines = with_line client (rec.Client (Conn number)) lines

-- the server's CONNECT, with this sid
abbrev pub with_reply_of : List ℕ → List ℕ → Session → Lines → Lines
with_reply_of client sid session lines = with_line client (rec.Client (TextIn (message (reply_text sid session.pid)))) lines

-- the server's CONNECT, where there is one: with the session's sid, or with another
abbrev pub with_reply : Reply → List ℕ → Session → Lines → Lines
with_reply Own client session lines = with_reply_of client session.sid session lines
with_reply OtherSid client session lines = with_reply_of client (name_of (codes "x") session.number) session lines
with_reply Missing client session lines = lines

-- the position of the entry after which the client asks to go on: of the last one whose offset it received, or 0, which
-- no entry has
abbrev pub asked_position : Asked → Option ℕ → Option ℕ
asked_position LastReceived last = last
asked_position Unknown last = Some 0

-- the client's CONNECT: it asks for its session
abbrev pub with_asking : Asked → List ℕ → Session → Lines → Lines
with_asking asked client session lines =
    option_map_or (λ position. with_line client (rec.Client (TextOut (message (asking_text session.pid position)))) lines) (asked_position asked session.last) lines

-- a node's record, and then that the client's connection is lost
abbrev pub with_departure : List ℕ → List ℕ → NodeRec → Lines → Lines
with_departure client node record_of_node lines = with_line client (rec.Client Lost) (with_line node (rec.Node record_of_node) lines)

-- the node's record of a session, where the session is on one, and then that the client's connection is lost
abbrev pub with_left : List ℕ → Option NodeState → NodeRec → Lines → Lines
with_left client node record_of_node lines = option_map_or (λ (n : NodeState). with_departure client n.name record_of_node lines) node lines

-- the node's record of a session, where the session is on one
abbrev pub with_change : Option NodeState → NodeRec → Lines → Lines
with_change node record_of_node lines = option_map_or (λ (n : NodeState). with_line n.name (rec.Node record_of_node) lines) node lines

-- ---- sessions

-- a session of this number, opened on the node with an index: one room, named by its sid
abbrev pub first_session : ℕ → ℕ → Session
first_session number node = record {
  number = number;
  pid = name_of (codes "p") number;
  sid = name_of (codes "s") number;
  rooms = own_room (name_of (codes "s") number);
  turn = 0;
  last = None;
  at = at.Node node;
}

-- it joins a room, where it is on a node
abbrev pub session_joined : Option NodeState → List ℕ → Session → Session
session_joined node room session = option_map_or (λ (n : NodeState). record session { rooms = set.insert session.rooms room }) node session

-- it leaves a room, where it is on a node
abbrev pub session_parted : Option NodeState → List ℕ → Session → Session
session_parted node room session = option_map_or (λ (n : NodeState). record session { rooms = set.remove session.rooms room }) node session

-- its connection breaks
abbrev pub session_cut : List NodeState → Session → Session
session_cut nodes session = record session { at = place_after_break nodes session.at }

-- it begins its next turn on the node with an index
abbrev pub session_back : ℕ → Session → Session
session_back node session = record session { turn = next_turn session.turn; at = at.Node node }

-- ---- clients

-- a client whose next connection begins
abbrev pub client_connected : Client → Client
client_connected client = record client { connections = next_number client.connections }

-- a client whose connection broke
abbrev pub client_cut : List NodeState → Client → Client
client_cut nodes client = option_map_or
    (λ (session : Session). record client { injected = fault_after_connection client.injected; session = Some (session_cut nodes session) })
    client.session client

-- a client whose session is over
abbrev pub client_finished : Client → Client
client_finished client = option_map_or
    (λ (session : Session). record client { injected = fault_after_connection client.injected; session = None })
    client.session client
