-- What is left of a recording once entries of the stream that a session doesn't need are `other`, each at its place and
-- with its offset.
use Rattle.std.specs.Prelude.{◌≡◌, ◌&&◌, ◌||◌, Bool, true, false, if◌then◌else◌, ℕ, List, map, Some}
use Rattle.std.specs.List.{All, list_any}
use Rattle.std.specs.Str.{bytes_eq}
use Rattle.aud_tap.specs.declared.records.StreamRec.{StreamRec}
use Rattle.aud_tap.specs.declared.records.StreamRec.TheVariants.{Ev, Other}
use Rattle.aud_tap.specs.declared.records.NodeRec.{NodeRec}
use Rattle.aud_tap.specs.declared.records.NodeRec.TheVariants.{Opened, Join}
use Rattle.aud_tap.specs.declared.taps.Records.{Records}
use Rattle.aud_tap.specs.declared.taps.Records.TheVariants.{Stream, Node, Client}
use Rattle.aud_tap.specs.declared.taps.Tap.{Tap}
use Rattle.aud_tap.specs.RecordFields.{offset_of}
use Rattle.aud_node.specs.Lists.{is_empty}
use Rattle.aud_node.specs.Stream.{Text}
use Rattle.aud_node.specs.Recoverable.{is_recoverable}
use Rattle.aud_node.specs.Cluster.{Cluster, node_recs}
use Rattle.aud_client.specs.TapPackets.{TapPacket, FromServer, FromClient, Connection, tap_packets}
use Rattle.aud_client.specs.Replies.{is_this}
use Rattle.aud_client.specs.StaySeen.{offset_in}
use Rattle.aud_parts.specs.LeftOut.{tell_of}

-- ---- what is left

-- the entry, if it is kept; else an entry of its offset that is no event
abbrev pub entry_left : (StreamRec → Bool) → StreamRec → StreamRec
entry_left keeps entry = if keeps entry then entry else Other (offset_of entry)

-- a stream's entries so; all records of another tap
abbrev pub entries_left : (StreamRec → Bool) → Records → Records
entries_left keeps (Stream recs) = Stream (map (entry_left keeps) recs)
entries_left keeps (Node recs) = Node recs
entries_left keeps (Client recs) = Client recs

-- the tap with its entries so
abbrev pub tap_with_others : (StreamRec → Bool) → Tap → Tap
tap_with_others keeps tap =
    record { name = tap.name; version = tap.version; records = entries_left keeps tap.records }

-- the cluster in which the entries that aren't kept are `other`
abbrev pub with_others : (StreamRec → Bool) → Cluster → Cluster
with_others keeps c =
    record { stream = map (entry_left keeps) c.stream; taps = map (tap_with_others keeps) c.taps }

-- ---- what a session needs

-- the record opens the session in the namespace
abbrev pub opens_in : Text → Text → NodeRec → Bool
opens_in pid nsp (Opened other sid its) = bytes_eq other pid && bytes_eq its nsp
opens_in pid nsp _ = false

-- from the record on the session holds the room: it is opened with the room's name as its sid, or joins the room
abbrev pub gives_room : Text → Text → NodeRec → Bool
gives_room pid room (Opened other sid nsp) = bytes_eq other pid && bytes_eq sid room
gives_room pid room (Join other joined) = bytes_eq other pid && bytes_eq joined room
gives_room pid room _ = false

-- a record in a node's log passes the test
abbrev pub any_record : (NodeRec → Bool) → List Tap → Bool
any_record test taps = list_any (λ (tap : Tap). list_any test (node_recs (Some tap.records))) taps

-- the session ever held the room
abbrev pub ever_held : List Tap → Text → Text → Bool
ever_held taps pid room = any_record (gives_room pid room) taps

-- the entry is addressed to the session's namespace, and to no room or to one that it ever held
abbrev pub may_be_for : List Tap → Text → StreamRec → Bool
may_be_for taps pid (Ev event) =
    any_record (opens_in pid event.nsp) taps
    && (is_empty event.rooms || list_any (ever_held taps pid) event.rooms)
may_be_for taps pid (Other off) = false

-- the packet is an event from the server that ends in the offset
abbrev pub is_event_of : Text → TapPacket → Bool
is_event_of off (FromServer whole) = is_this off (offset_in whole.packet)
is_event_of off (FromClient packet) = false

-- a packet of the connection is such an event
abbrev pub has_event_of : Text → Connection → Bool
has_event_of off connection =
    list_any (λ (placed : ℕ × TapPacket). is_event_of off placed.1) connection.packets

-- the records are a client's, and such an event came in its tap
abbrev pub tell_event : Text → Records → Bool
tell_event off (Stream recs) = false
tell_event off (Node recs) = false
tell_event off (Client recs) = list_any (has_event_of off) (tap_packets recs).connections

-- such an event came in a client's tap that tells of the session
abbrev pub has_come : List Tap → Text → Text → Bool
has_come taps pid off =
    list_any (λ (tap : Tap). tell_of pid tap.records && tell_event off tap.records) taps

-- the session needs the entry: it is recoverable, and may be for the session, or came to its client
abbrev pub needs : List Tap → Text → StreamRec → Bool
needs taps pid entry =
    is_recoverable entry && (may_be_for taps pid entry || has_come taps pid (offset_of entry))

-- one of the sessions needs the entry
abbrev pub needed_by_some : List Tap → List Text → StreamRec → Bool
needed_by_some taps pids entry = list_any (λ pid. needs taps pid entry) pids

-- each entry that the session needs is kept
abbrev pub KeepsNeeded : (StreamRec → Bool) → Cluster → Text → Type 0
KeepsNeeded keeps c pid =
    All (λ (entry : StreamRec). needs c.taps pid entry ≡ true → keeps entry ≡ true) c.stream
