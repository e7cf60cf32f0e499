-- What is written for a record reads as that record.
use Rattle.std.proofs.Common.{◌≡◌, ℕ, List, [], ◌∷◌, length, map, Option, Some, None, true, ◌&&◌, codes, nat_le, Ok, refl, ap, ◌∙◌}
use Rattle.std.specs.Result.{result_ok}
use Rattle.std.proofs.lemmas.Bool.{and_parts}
use Rattle.base64.proofs.EngineFacts.{decode_of-encode_of}
use Rattle.base64.specs.Engines.{standard}
use Rattle.base64.specs.GeneralPurpose.{IsBytes}
use Rattle.serde_json.specs.Data.{Data, string, array, Members, no_members, member, put}
use Rattle.serde_json.specs.Find.{as_str, get_member}
use Rattle.aud_tap.specs.declared.records.ClientRec.{ClientRec}
use Rattle.aud_tap.specs.declared.records.ClientRec.TheVariants.{Conn, TextIn, BytesIn, Poll, TextOut, Lost}
use Rattle.aud_tap.specs.declared.records.TapKind.{TapKind}
use Rattle.aud_tap.specs.declared.records.TapKind.TheVariants as tap
use Rattle.aud_tap.specs.declared.records.Version.{Version}
use Rattle.aud_tap.specs.declared.records.Version.TheVariants.{One, Two}
use Rattle.aud_tap.specs.declared.records.Event.{Event}
use Rattle.aud_tap.specs.declared.records.StreamRec.{StreamRec}
use Rattle.aud_tap.specs.declared.records.StreamRec.TheVariants.{Ev, Other}
use Rattle.aud_tap.specs.declared.records.NodeRec.{NodeRec}
use Rattle.aud_tap.specs.declared.records.NodeRec.TheVariants.{Start, Take, Takes, Opened, Join, Leave, Broke, Back, Gone}
use Rattle.aud_tap.specs.declared.records.Rec.{Rec}
use Rattle.aud_tap.specs.declared.records.Rec.TheVariants.{Header, Stream, Node, Client}
use Rattle.aud_tap.specs.Limits.{fits, fit_rooms, max_attachments, max_id, max_offset, max_namespace, max_turn}
use Rattle.aud_tap.specs.Forms.{is_id, is_namespace}
use Rattle.aud_reader.specs.Fields.{bounded_id_at, decoded, all_items, list_or_empty, as_blob}
use Rattle.aud_reader.specs.Header.{header_of}
use Rattle.aud_reader.specs.StreamRecord.{stream_record_of, event_of, bounded_event, lists_of}
use Rattle.aud_reader.specs.NodeRecord.{node_record_of, start_of, open_of, member_of, pid_and_turn}
use Rattle.aud_reader.specs.ClientRecord.{client_record_of}
use Rattle.aud_reader.specs.Record.{record_in, record_of, value_record}
use Rattle.aud_tap.specs.WellFormed.{is_well_formed, event_is_well_formed, stream_is_well_formed, is_offset, is_session_id, is_room, is_full_namespace, node_is_well_formed}
use Rattle.aud_writer.specs.Written.{record_data, stream_data, header_data, event_data, node_data, client_data, encoded, text_member, list_member, text_items}
use Rattle.aud_writer.specs.BytesBack.{DecodeBack, stream_bytes, client_bytes, blobs_of, put_unless_empty}

-- a header that was written reads as that header
pub header-back : (of : TapKind) (v : Version) → value_record (header_data of v) ≡ Ok (Header of v)
unfolding value_record record_of header_of
header-back tap.Stream One = refl
header-back tap.Stream Two = refl
header-back tap.Node One = refl
header-back tap.Node Two = refl
header-back tap.Client One = refl
header-back tap.Client Two = refl

-- a `join` or `leave` that is well formed has a pid and a room that are
member-parts : (pid room : List ℕ) → is_session_id pid && is_room room ≡ true → (is_id pid ≡ true) × (fits max_id pid ≡ true) × (is_room room ≡ true)
member-parts pid room h = let ps = and_parts (is_session_id pid) (is_room room) h in let p = and_parts (is_id pid) (fits max_id pid) ps.0 in (p.0, p.1, ps.1)

-- a `break` or `back` that is well formed has a pid that is, and a turn within the limit
turn-parts : (pid : List ℕ) (turn : ℕ) → is_session_id pid && nat_le turn max_turn ≡ true → (is_id pid ≡ true) × (fits max_id pid ≡ true) × (nat_le turn max_turn ≡ true)
turn-parts pid turn h = let ps = and_parts (is_session_id pid) (nat_le turn max_turn) h in let p = and_parts (is_id pid) (fits max_id pid) ps.0 in (p.0, p.1, ps.1)

-- a node's record that was written reads as that record
pub node-back : (r : NodeRec) → node_is_well_formed r ≡ true → value_record (node_data r) ≡ Ok (Node r)
unfolding value_record record_of record_in node_record_of start_of bounded_id_at open_of member_of pid_and_turn
node-back (Start None) h = refl
node-back (Start (Some off)) h = let o = and_parts (is_id off) (fits max_offset off) h in rw (o.0, o.1) refl
node-back (Take off) h = let o = and_parts (is_id off) (fits max_offset off) h in rw (o.0, o.1) refl
node-back (Takes off) h = let o = and_parts (is_id off) (fits max_offset off) h in rw (o.0, o.1) refl
node-back (Opened pid sid nsp) h =
    let ps = and_parts (is_session_id pid && is_session_id sid) (is_full_namespace nsp) h in
    let ids = and_parts (is_session_id pid) (is_session_id sid) ps.0 in
    let p = and_parts (is_id pid) (fits max_id pid) ids.0 in
    let s = and_parts (is_id sid) (fits max_id sid) ids.1 in
    let n = and_parts (is_namespace nsp) (fits max_namespace nsp) ps.1 in
    rw (p.0, s.0, n.0, p.1, s.1, n.1) refl
node-back (Join pid room) h = let m = member-parts pid room h in rw (m.0, m.1, m.2) refl
node-back (Leave pid room) h = let m = member-parts pid room h in rw (m.0, m.1, m.2) refl
node-back (Broke pid turn) h = let t = turn-parts pid turn h in rw (t.0, t.1, t.2) refl
node-back (Back pid turn) h = let t = turn-parts pid turn h in rw (t.0, t.1, t.2) refl
node-back (Gone pid) h = let p = and_parts (is_id pid) (fits max_id pid) h in rw (p.0, p.1) refl

-- bytes that were encoded decode to what they were
pub decoded-encoded : (b : List ℕ) → IsBytes b → decoded (encoded b) ≡ Some b
decoded-encoded b bytes = ap result_ok (decode_of-encode_of standard b refl bytes)

-- a client's record that was written reads as that record
pub client-back : (r : ClientRec) → DecodeBack (client_bytes r) → value_record (client_data r) ≡ Ok (Client r)
unfolding value_record record_of record_in client_record_of
client-back (Conn c) h = refl
client-back (TextIn t) h = refl
client-back (BytesIn b) h = rw (h.0) refl
client-back (Poll t) h = refl
client-back (TextOut t) h = refl
client-back Lost h = refl

-- ---- events

-- the members of an event, in the order of their keys
abbrev event_members : List (List ℕ) → List (List ℕ) → List ℕ → List ℕ → List (List ℕ) → List ℕ → Members
event_members bin except nsp off rooms text =
    list_member (codes "bin") bin
    (list_member (codes "except") except
    (text_member (codes "k") (codes "ev")
    (text_member (codes "nsp") nsp
    (text_member (codes "off") off
    (list_member (codes "rooms") rooms
    (text_member (codes "text") text no_members))))))

-- a list of texts that was written reads as those texts
texts-back : (ts : List (List ℕ)) → all_items as_str (text_items ts) ≡ Some ts
texts-back [] = refl
texts-back (t ∷ ts) = rw (texts-back ts) refl

-- a list of attachments that was written reads as those attachments
blobs-back : (bs : List (List ℕ)) → DecodeBack bs → all_items as_blob (text_items (map encoded bs)) ≡ Some bs
blobs-back [] h = refl
blobs-back (b ∷ bs) h = rw (h.0, blobs-back bs h.1) refl

-- a list as it stands, or nothing where it is empty
abbrev unless_empty : List (List ℕ) → Option Data
unless_empty [] = None
unless_empty (t ∷ ts) = Some (array (text_items (t ∷ ts)))

-- a list of another key is passed over
past : (key other : List ℕ) (ts : List (List ℕ)) (rest : Members) → ((d : Data) → get_member key (member other d rest) ≡ get_member key rest) → get_member key (list_member other ts rest) ≡ get_member key rest
past key other [] rest apart = refl
past key other (t ∷ ts) rest apart = apart (array (text_items (t ∷ ts)))

-- a list at its key
here : (key : List ℕ) (ts : List (List ℕ)) (rest : Members) → ((d : Data) → get_member key (member key d rest) ≡ Some d) → get_member key rest ≡ None → get_member key (list_member key ts rest) ≡ unless_empty ts
here key [] rest found none = none
here key (t ∷ ts) rest found none = found (array (text_items (t ∷ ts)))

-- a list that is put before greater keys
put-first : (key : List ℕ) (ts : List (List ℕ)) (rest : Members) → ((d : Data) → put key d rest ≡ member key d rest) → put_unless_empty key (text_items ts) rest ≡ list_member key ts rest
put-first key [] rest first = refl
put-first key (t ∷ ts) rest first = first (array (text_items (t ∷ ts)))

-- a member that is put before a list of a greater key
put-before : (key other : List ℕ) (d : Data) (ts : List (List ℕ)) (rest : Members) → ((e : Data) → put key d (member other e rest) ≡ member key d (member other e rest)) → put key d rest ≡ member key d rest
    → put key d (list_member other ts rest) ≡ member key d (list_member other ts rest)
put-before key other d [] rest before none = none
put-before key other d (t ∷ ts) rest before none = before (array (text_items (t ∷ ts)))

module _ (bin except : List (List ℕ)) (nsp off : List ℕ) (rooms : List (List ℕ)) (text : List ℕ) where
  -- from the rooms on, and from the kind on
  abbrev from_rooms : Members
  from_rooms = list_member (codes "rooms") rooms (text_member (codes "text") text no_members)

  abbrev from_kind : Members
  from_kind = text_member (codes "k") (codes "ev") (text_member (codes "nsp") nsp (text_member (codes "off") off from_rooms))

  -- a key that is neither of the first two lists'
  past_lists : (key : List ℕ) → ((d : Data) (ms : Members) → get_member key (member (codes "bin") d ms) ≡ get_member key ms) → ((d : Data) (ms : Members) → get_member key (member (codes "except") d ms) ≡ get_member key ms)
      → get_member key (event_members bin except nsp off rooms text) ≡ get_member key from_kind
  past_lists key no_bin no_except =
      past key (codes "bin") bin (list_member (codes "except") except from_kind) (λ d. no_bin d (list_member (codes "except") except from_kind))
      ∙ past key (codes "except") except from_kind (λ d. no_except d from_kind)

  at_kind : get_member (codes "k") (event_members bin except nsp off rooms text) ≡ Some (string (codes "ev"))
  at_kind = past_lists (codes "k") (λ d ms. refl) (λ d ms. refl)

  at_off : get_member (codes "off") (event_members bin except nsp off rooms text) ≡ Some (string off)
  at_off = past_lists (codes "off") (λ d ms. refl) (λ d ms. refl)

  at_nsp : get_member (codes "nsp") (event_members bin except nsp off rooms text) ≡ Some (string nsp)
  at_nsp = past_lists (codes "nsp") (λ d ms. refl) (λ d ms. refl)

  at_text : get_member (codes "text") (event_members bin except nsp off rooms text) ≡ Some (string text)
  at_text = past_lists (codes "text") (λ d ms. refl) (λ d ms. refl) ∙ past (codes "text") (codes "rooms") rooms _ (λ d. refl)

  at_rooms : get_member (codes "rooms") (event_members bin except nsp off rooms text) ≡ unless_empty rooms
  at_rooms = past_lists (codes "rooms") (λ d ms. refl) (λ d ms. refl) ∙ here (codes "rooms") rooms _ (λ d. refl) refl

  at_except : get_member (codes "except") (event_members bin except nsp off rooms text) ≡ unless_empty except
  at_except =
      past (codes "except") (codes "bin") bin _ (λ d. refl)
      ∙ here (codes "except") except from_kind (λ d. refl) (past (codes "except") (codes "rooms") rooms _ (λ d. refl))

  at_bin : get_member (codes "bin") (event_members bin except nsp off rooms text) ≡ unless_empty bin
  at_bin =
      here (codes "bin") bin _ (λ d. refl)
      (past (codes "bin") (codes "except") except from_kind (λ d. refl) ∙ past (codes "bin") (codes "rooms") rooms _ (λ d. refl))

  -- the members of an event, put one by one from the greatest key down
  pub event-put :
      put_unless_empty (codes "bin") (text_items bin)
      (put_unless_empty (codes "except") (text_items except)
      (put (codes "k") (string (codes "ev"))
      (put (codes "nsp") (string nsp)
      (put (codes "off") (string off)
      (put_unless_empty (codes "rooms") (text_items rooms)
      (put (codes "text") (string text) no_members)))))) ≡ event_members bin except nsp off rooms text
  event-put =
      let rooms_put = put-first (codes "rooms") rooms (text_member (codes "text") text no_members) (λ d. refl) in
      let off_put = put-before (codes "off") (codes "rooms") (string off) rooms (text_member (codes "text") text no_members) (λ e. refl) refl in
      let except_put = put-first (codes "except") except from_kind (λ d. refl) in
      let bin_put = put-first (codes "bin") bin (list_member (codes "except") except from_kind) (λ d. put-before (codes "bin") (codes "except") d except from_kind (λ e. refl) refl) in
      rw (rooms_put, off_put, except_put) bin_put

-- texts read back, where an empty list is left out
texts-or-empty : (ts : List (List ℕ)) → list_or_empty as_str (unless_empty ts) ≡ Some ts
texts-or-empty [] = refl
texts-or-empty (t ∷ ts) = texts-back (t ∷ ts)

-- attachments read back, where an empty list is left out
blobs-or-empty : (bs : List (List ℕ)) → DecodeBack bs → list_or_empty as_blob (unless_empty (map encoded bs)) ≡ Some bs
blobs-or-empty [] h = refl
blobs-or-empty (b ∷ bs) h = blobs-back (b ∷ bs) h

-- an event that was written reads as that event
event-back : (e : Event) → event_is_well_formed e ≡ true → DecodeBack e.bin → event_of (event_data e) ≡ Ok (Ev e)
unfolding event_of bounded_event lists_of
event-back e h bytes =
    let e4 = and_parts (is_offset e.off && is_full_namespace e.nsp && fit_rooms e.rooms && fit_rooms e.except) (nat_le (length e.bin) max_attachments) h in
    let e3 = and_parts (is_offset e.off && is_full_namespace e.nsp && fit_rooms e.rooms) (fit_rooms e.except) e4.0 in
    let e2 = and_parts (is_offset e.off && is_full_namespace e.nsp) (fit_rooms e.rooms) e3.0 in
    let e1 = and_parts (is_offset e.off) (is_full_namespace e.nsp) e2.0 in
    let o = and_parts (is_id e.off) (fits max_offset e.off) e1.0 in
    let n = and_parts (is_namespace e.nsp) (fits max_namespace e.nsp) e1.1 in
    let bin = map encoded e.bin in
    rw (
      at_off bin e.except e.nsp e.off e.rooms e.text,
      at_nsp bin e.except e.nsp e.off e.rooms e.text,
      at_text bin e.except e.nsp e.off e.rooms e.text,
      at_rooms bin e.except e.nsp e.off e.rooms e.text,
      at_except bin e.except e.nsp e.off e.rooms e.text,
      at_bin bin e.except e.nsp e.off e.rooms e.text,
      texts-or-empty e.rooms,
      texts-or-empty e.except,
      blobs-or-empty e.bin bytes,
      o.0,
      n.0,
      o.1,
      n.1,
      e2.1,
      e3.1,
      e4.1,
    ) refl

-- a record of the stream that was written reads as that record
stream-back : (r : StreamRec) → stream_is_well_formed r ≡ true → DecodeBack (stream_bytes r) → value_record (stream_data r) ≡ Ok (Stream r)
unfolding value_record record_of record_in stream_record_of bounded_id_at
stream-back (Ev e) h bytes = rw (at_kind (map encoded e.bin) e.except e.nsp e.off e.rooms e.text, event-back e h bytes) refl
stream-back (Other off) h bytes = let o = and_parts (is_id off) (fits max_offset off) h in rw (o.0, o.1) refl

-- what is written for a well-formed record reads as that record
pub record-back : (r : Rec) → is_well_formed r ≡ true → DecodeBack (blobs_of r) → value_record (record_data r) ≡ Ok r
record-back (Header of v) h bytes = header-back of v
record-back (Stream r) h bytes = stream-back r h bytes
record-back (Node r) h bytes = node-back r h
record-back (Client r) h bytes = client-back r bytes
