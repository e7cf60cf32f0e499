-- The line of a record: keys in byte order, no blanks, and empty lists left out.
use Rattle.std.specs.Prelude.{ℕ, nat_le, List, [], ◌∷◌, ◌++◌, length, map, codes, Some, None, Result, Ok}
use Rattle.base64.specs.GeneralPurpose.{encode_of}
use Rattle.base64.specs.Engines.{standard}
use Rattle.serde_json.specs.Data.{Data, null, number, string, array, object, unsigned, Items, no_items, item, Members, no_members, member}
use Rattle.serde_json.specs.Written.{compact_text}
use Rattle.aud_reader.specs.declared.fault.InputCode.{InputCode}
use Rattle.aud_reader.specs.declared.fault.InputCode.TheVariants.{LineTooLong}
use Rattle.aud_tap.specs.declared.records.TapKind.{TapKind}
use Rattle.aud_tap.specs.declared.records.TapKind.TheVariants as tap
use Rattle.aud_tap.specs.declared.records.Version.{Version}
use Rattle.aud_tap.specs.declared.records.Version.TheVariants.{One, Two}
use Rattle.aud_tap.specs.declared.records.Event.{Event}
use Rattle.aud_tap.specs.declared.records.StreamRec.{StreamRec}
use Rattle.aud_tap.specs.declared.records.StreamRec.TheVariants.{Ev, Other}
use Rattle.aud_tap.specs.declared.records.NodeRec.{NodeRec}
use Rattle.aud_tap.specs.declared.records.NodeRec.TheVariants.{Start, Take, Takes, Opened, Join, Leave, Broke, Back, Gone}
use Rattle.aud_tap.specs.declared.records.ClientRec.{ClientRec}
use Rattle.aud_tap.specs.declared.records.ClientRec.TheVariants.{Conn, TextIn, BytesIn, Poll, TextOut, Lost}
use Rattle.aud_tap.specs.declared.records.Rec.{Rec}
use Rattle.aud_tap.specs.declared.records.Rec.TheVariants.{Header, Stream, Node, Client}
use Rattle.aud_base.specs.Steps.{◌>>=◌, guard}
use Rattle.aud_tap.specs.Limits.{max_line}

-- ---- members of an object, each before those of greater keys

-- a text
abbrev pub text_member : List ℕ → List ℕ → Members → Members
text_member key t rest = member key (string t) rest

-- a whole number
abbrev pub number_member : List ℕ → ℕ → Members → Members
number_member key n rest = member key (number (unsigned n)) rest

-- the texts as items of an array
abbrev pub text_items : List (List ℕ) → Items
text_items [] = no_items
text_items (t ∷ ts) = item (string t) (text_items ts)

-- a list of texts, left out where it is empty
abbrev pub list_member : List ℕ → List (List ℕ) → Members → Members
list_member key [] rest = rest
list_member key (t ∷ ts) rest = member key (array (text_items (t ∷ ts))) rest

-- bytes in base64 (RFC 4648, section 4), padded
abbrev pub encoded : List ℕ → List ℕ
encoded = encode_of standard

-- ---- the JSON of a record

-- the word for a kind of tap
abbrev pub tap_word : TapKind → List ℕ
tap_word tap.Stream = codes "stream"
tap_word tap.Node = codes "node"
tap_word tap.Client = codes "client"

-- the number of a version
abbrev pub version_number : Version → ℕ
version_number One = 1
version_number Two = 2

-- `{"k":"tap","of":..,"v":..}`
abbrev pub header_data : TapKind → Version → Data
header_data of v =
    object (text_member (codes "k") (codes "tap")
    (text_member (codes "of") (tap_word of)
    (number_member (codes "v") (version_number v) no_members)))

-- `{"bin":[..],"except":[..],"k":"ev","nsp":..,"off":..,"rooms":[..],"text":..}`
abbrev pub event_data : Event → Data
event_data e =
    object (list_member (codes "bin") (map encoded e.bin)
    (list_member (codes "except") e.except
    (text_member (codes "k") (codes "ev")
    (text_member (codes "nsp") e.nsp
    (text_member (codes "off") e.off
    (list_member (codes "rooms") e.rooms
    (text_member (codes "text") e.text no_members)))))))

-- `{"k":..,"off":..}`
abbrev pub offset_data : List ℕ → List ℕ → Data
offset_data kind off = object (text_member (codes "k") kind (text_member (codes "off") off no_members))

-- a record of the stream's tap
abbrev pub stream_data : StreamRec → Data
stream_data (Ev e) = event_data e
stream_data (Other off) = offset_data (codes "other") off

-- `{"k":"start","off":null}`
abbrev pub begin_data : Data
begin_data = object (text_member (codes "k") (codes "start") (member (codes "off") null no_members))

-- `{"k":"open","nsp":..,"pid":..,"sid":..}`
abbrev pub open_data : List ℕ → List ℕ → List ℕ → Data
open_data pid sid nsp =
    object (text_member (codes "k") (codes "open")
    (text_member (codes "nsp") nsp
    (text_member (codes "pid") pid
    (text_member (codes "sid") sid no_members))))

-- `{"k":..,"pid":..,"room":..}`
abbrev pub member_data : List ℕ → List ℕ → List ℕ → Data
member_data kind pid room =
    object (text_member (codes "k") kind
    (text_member (codes "pid") pid
    (text_member (codes "room") room no_members)))

-- `{"k":..,"pid":..,"turn":..}`
abbrev pub pid_and_turn_data : List ℕ → List ℕ → ℕ → Data
pid_and_turn_data kind pid turn =
    object (text_member (codes "k") kind
    (text_member (codes "pid") pid
    (number_member (codes "turn") turn no_members)))

-- `{"k":"gone","pid":..}`
abbrev pub gone_data : List ℕ → Data
gone_data pid =
    object (text_member (codes "k") (codes "gone")
    (text_member (codes "pid") pid no_members))

-- a record of a node's tap
abbrev pub node_data : NodeRec → Data
node_data (Start None) = begin_data
node_data (Start (Some off)) = offset_data (codes "start") off
node_data (Take off) = offset_data (codes "take") off
node_data (Takes off) = offset_data (codes "takes") off
node_data (Opened pid sid nsp) = open_data pid sid nsp
node_data (Join pid room) = member_data (codes "join") pid room
node_data (Leave pid room) = member_data (codes "leave") pid room
node_data (Broke pid turn) = pid_and_turn_data (codes "break") pid turn
node_data (Back pid turn) = pid_and_turn_data (codes "back") pid turn
node_data (Gone pid) = gone_data pid

-- `{"c":..,"k":"conn"}`
abbrev pub conn_data : ℕ → Data
conn_data c = object (number_member (codes "c") c (text_member (codes "k") (codes "conn") no_members))

-- `{"b":..,"k":"inb"}`
abbrev pub binary_data : List ℕ → Data
binary_data b = object (text_member (codes "b") (encoded b) (text_member (codes "k") (codes "inb") no_members))

-- `{"k":..,"t":..}`
abbrev pub message_data : List ℕ → List ℕ → Data
message_data kind t = object (text_member (codes "k") kind (text_member (codes "t") t no_members))

-- `{"k":"lost"}`
abbrev pub lost_data : Data
lost_data = object (text_member (codes "k") (codes "lost") no_members)

-- a record of a client's tap
abbrev pub client_data : ClientRec → Data
client_data (Conn c) = conn_data c
client_data (TextIn t) = message_data (codes "in") t
client_data (BytesIn b) = binary_data b
client_data (Poll t) = message_data (codes "poll") t
client_data (TextOut t) = message_data (codes "out") t
client_data Lost = lost_data

-- any record
abbrev pub record_data : Rec → Data
record_data (Header of v) = header_data of v
record_data (Stream r) = stream_data r
record_data (Node r) = node_data r
record_data (Client r) = client_data r

-- ---- the line

-- the tap's name, a blank, and the record's JSON
abbrev pub line_text : List ℕ → Rec → List ℕ
line_text name rec = name ++ 32 ∷ compact_text (record_data rec)

-- the line, unless it is too long
abbrev pub written_line : List ℕ → Rec → Result (List ℕ) InputCode
written_line name rec = do
  line_fits ← guard LineTooLong (nat_le (length (line_text name rec)) max_line)
  Ok (line_text name rec)
