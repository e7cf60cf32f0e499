-- The JSON of a record is shallow and has no float, so its text is known and reads back.
use Rattle.std.proofs.Common.{◌≡◌, ℕ, ◌≤◌, List, [], ◌∷◌, map, codes, Some, None, false, refl, arith}
use Rattle.serde_json.specs.Data.{Data, depth, items_depth, members_depth, Members, no_members}
use Rattle.serde_json.specs.Written.{has_float, items_have_float, members_have_float}
use Rattle.aud_tap.specs.declared.records.Event.{Event}
use Rattle.aud_tap.specs.declared.records.StreamRec.TheVariants.{Ev, Other}
use Rattle.aud_tap.specs.declared.records.NodeRec.{NodeRec}
use Rattle.aud_tap.specs.declared.records.NodeRec.TheVariants.{Start, Take, Takes, Opened, Join, Leave, Broke, Back, Gone}
use Rattle.aud_tap.specs.declared.records.ClientRec.{ClientRec}
use Rattle.aud_tap.specs.declared.records.ClientRec.TheVariants.{Conn, TextIn, BytesIn, Poll, TextOut, Lost}
use Rattle.aud_tap.specs.declared.records.Rec.{Rec}
use Rattle.aud_tap.specs.declared.records.Rec.TheVariants.{Header, Stream, Node, Client}
use Rattle.aud_writer.specs.Written.{encoded, text_items, text_member, list_member, event_data, record_data, node_data, client_data}

-- shallow, and without a float
abbrev IsPlain : Data → Type 0
IsPlain d = (depth d ≤ 2) × (has_float d ≡ false)

-- members that hold texts, numbers and lists of these
abbrev ArePlain : Members → Type 0
ArePlain ms = (members_depth ms ≤ 1) × (members_have_float ms ≡ false)

texts-plain : (ts : List (List ℕ)) → (items_depth (text_items ts) ≡ 0) × (items_have_float (text_items ts) ≡ false)
texts-plain [] = (refl, refl)
texts-plain (t ∷ ts) = let rest = texts-plain ts in (rw rest.0 refl, rest.1)

list-plain : (key : List ℕ) (ts : List (List ℕ)) (rest : Members) → ArePlain rest → ArePlain (list_member key ts rest)
list-plain key [] rest h = h
list-plain key (t ∷ ts) rest h = let texts = texts-plain ts in (rw texts.0 (let deep = h.0 in omega arith), rw texts.1 h.1)

event-plain : (e : Event) → IsPlain (event_data e)
event-plain e =
    let rooms = list-plain (codes "rooms") e.rooms (text_member (codes "text") e.text no_members) (omega arith, refl) in
    let except = list-plain (codes "except") e.except
    (text_member (codes "k") (codes "ev") (text_member (codes "nsp") e.nsp (text_member (codes "off") e.off (list_member (codes "rooms") e.rooms (text_member (codes "text") e.text no_members)))))
    (let deep = rooms.0 in omega arith, rooms.1) in
    let bin = list-plain (codes "bin") (map encoded e.bin) _ except in
    (let deep = bin.0 in omega arith, bin.1)

node-plain : (r : NodeRec) → IsPlain (node_data r)
node-plain (Start None) = (omega arith, refl)
node-plain (Start (Some off)) = (omega arith, refl)
node-plain (Take off) = (omega arith, refl)
node-plain (Takes off) = (omega arith, refl)
node-plain (Opened pid sid nsp) = (omega arith, refl)
node-plain (Join pid room) = (omega arith, refl)
node-plain (Leave pid room) = (omega arith, refl)
node-plain (Broke pid turn) = (omega arith, refl)
node-plain (Back pid turn) = (omega arith, refl)
node-plain (Gone pid) = (omega arith, refl)

client-plain : (r : ClientRec) → IsPlain (client_data r)
client-plain (Conn c) = (omega arith, refl)
client-plain (TextIn t) = (omega arith, refl)
client-plain (BytesIn b) = (omega arith, refl)
client-plain (Poll t) = (omega arith, refl)
client-plain (TextOut t) = (omega arith, refl)
client-plain Lost = (omega arith, refl)

pub record-plain : (r : Rec) → IsPlain (record_data r)
record-plain (Header of v) = (omega arith, refl)
record-plain (Stream (Ev e)) = event-plain e
record-plain (Stream (Other off)) = (omega arith, refl)
record-plain (Node r) = node-plain r
record-plain (Client r) = client-plain r
