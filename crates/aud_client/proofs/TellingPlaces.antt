-- The records of a stay with one packet more.
use Rattle.std.proofs.Common.{◌≡◌, ℕ, Bool, true, false, ◌&&◌, cond, List, [], ◌∷◌, ◌++◌, refl, sym, ap, ◌∙◌, arith, append-nil, Option, Some, None, is_some, is_none, unwrap_or}
use Rattle.std.specs.List.{list_any, cons_option}
use Rattle.std.specs.Option.{option_or, option_map, option_and_then}
use Rattle.std.proofs.Math.Bool.{or-false}
use Rattle.std.proofs.lemmas.Bool.{false≢true}
use Rattle.std.proofs.lemmas.List.{map-append}
use Rattle.std.proofs.lemmas.List.Elements.{filter_map-append}
use Rattle.aud_tap.specs.declared.records.StreamRec.{StreamRec}
use Rattle.aud_client.specs.TapPackets.{TapPacket, FromServer, FromClient, first_of}
use Rattle.aud_client.specs.Stays.{is_reply}
use Rattle.aud_node.specs.Recoverable.{is_event}
use Rattle.aud_sio.specs.declared.kind.PacketKind.{PacketKind}
use Rattle.aud_sio.specs.declared.kind.PacketKind.TheVariants as kind
use Rattle.aud_sio.specs.Packet.{PacketSeen}
use Rattle.aud_sio.specs.Wholes.{WholeSeen}
use Rattle.aud_client.specs.Replies.{ReplySeen, is_connect_kind, reply_in}
use Rattle.aud_base.proofs.Options.{or_none}
use Rattle.aud_client.specs.Entries.{FrameSeen}
use Rattle.aud_client.specs.StaySeen.{AskedSeen, StaySeen, reply_at, asked_in, ask_of, frame_at, frame_of, recoverable_position}
use Rattle.aud_client.proofs.Telling.{no_reply_at, reply_at-some, no_ask-reply}
use Rattle.aud_client.proofs.ClientLemmas.{first_of-append}
use Rattle.aud_client.specs.PlacedStays.{PlacedPacket, forgotten, goes_on_placed}
use Rattle.aud_client.specs.StayPlaces.{PlacesSeen, record_of, records_of, last_number, placed_before_reply, numbers_in, places_of}
use Rattle.aud_client.specs.declared.part.Part.TheVariants as part
use Rattle.aud_client.specs.Private.Kept.{grown, no_places, ask_after, grown_places, part_of, with_frame, with_part}

-- ---- the first and the last number

-- one more at the end
last-more : (xs : List ℕ) (y : ℕ) → last_number (xs ++ y ∷ []) ≡ Some y
last-more [] y = refl
last-more (x ∷ []) y = refl
last-more (x ∷ z ∷ zs) y = last-more (z ∷ zs) y

-- perhaps one more
last-may : (xs : List ℕ) (o : Option ℕ) → last_number (xs ++ cons_option o []) ≡ option_or o (last_number xs)
last-may xs None = ap last_number (append-nil xs)
last-may xs (Some y) = last-more xs y

first-alone : (o : Option ℕ) → first_of (cons_option o []) ≡ o
first-alone None = refl
first-alone (Some x) = refl

first-may : (xs : List ℕ) (o : Option ℕ) → first_of (xs ++ cons_option o []) ≡ option_or (first_of xs) o
first-may xs o = first_of-append xs (cons_option o []) ∙ ap (option_or (first_of xs)) (first-alone o)

-- ---- the packets that give something

-- of a packet more
records-more : {X : Type 0} (gives : TapPacket → Option X) (s : List PlacedPacket) (q : PlacedPacket) → records_of gives (s ++ q ∷ []) ≡ records_of gives s ++ cons_option (record_of gives q) []
records-more gives s q = filter_map-append (record_of gives) s (q ∷ [])

-- a packet gives a reply where it is one
pub is_reply-at : (p : TapPacket) → is_some (reply_at p) ≡ is_reply p
is_reply-at p = grind (arith, no_reply_at p, reply_at-some p)

-- ---- the reply, and what stands in front of it

-- there is a record of the reply where a packet is one
pub has_reply : (s : List PlacedPacket) → is_some (first_of (records_of reply_at s)) ≡ list_any is_reply (forgotten s)
has_reply [] = refl
has_reply (q ∷ s) = grind (arith, has_reply s, is_reply-at q.1)

replied : (s x : List PlacedPacket) → list_any is_reply (forgotten s) ≡ true → placed_before_reply (s ++ x) ≡ placed_before_reply s
replied [] x e = absurd (false≢true e)
replied (q ∷ s) x e = grind (arith, replied s x)

unreplied : (s x : List PlacedPacket) → list_any is_reply (forgotten s) ≡ false → placed_before_reply (s ++ x) ≡ s ++ placed_before_reply x
unreplied [] x e = refl
unreplied (q ∷ s) x e = grind (arith, unreplied s x)

all_before : (s : List PlacedPacket) → list_any is_reply (forgotten s) ≡ false → placed_before_reply s ≡ s
all_before s e = ap placed_before_reply (sym (append-nil s)) ∙ unreplied s [] e ∙ append-nil s

-- the asks among packets in front of the reply, and one packet more
asks-more : (s : List PlacedPacket) (q : PlacedPacket) → last_number (records_of ask_of (s ++ placed_before_reply (q ∷ []))) ≡ option_or (record_of ask_of q) (last_number (records_of ask_of s))
asks-more s q = grind (arith, ap last_number (records-more ask_of s q) ∙ last-may (records_of ask_of s) (record_of ask_of q), no_ask-reply q.1, append-nil s)

ask-more : (stream : List StreamRec) (s : List PlacedPacket) (q : PlacedPacket) → last_number (records_of ask_of (placed_before_reply (s ++ q ∷ []))) ≡ ask_after (places_of stream s) q
ask-more stream s q = grind (arith, has_reply s, replied s (q ∷ []), unreplied s (q ∷ []), all_before s, asks-more s q)

-- ---- all of it

-- the same records
same_places : (f l m : ℕ) (a b r u : Option ℕ) (g h : List ℕ) → m ≡ l → a ≡ b → r ≡ u → g ≡ h
    → ◌≡◌ {A = PlacesSeen} (record { first = f; last = m; ask = a; reply = r; frames = g }) (record { first = f; last = l; ask = b; reply = u; frames = h })
same_places f l m a b r u g h z v w x = λ i. record { first = f; last = z i; ask = v i; reply = w i; frames = x i }

-- a stay of one packet
pub places_of-first : (stream : List StreamRec) (q : PlacedPacket) → places_of stream (q ∷ []) ≡ grown_places stream (no_places q.0) q
places_of-first stream q = same_places q.0 q.0 q.0 _ _ _ _ _ _ refl (asks-more [] q) (first-alone (record_of reply_at q)) refl

-- a stay with one packet more
pub places_of-more : (stream : List StreamRec) (s : List PlacedPacket) (q : PlacedPacket) → goes_on_placed s q ≡ true
    → places_of stream (s ++ q ∷ []) ≡ grown_places stream (places_of stream s) q
places_of-more stream [] q e = absurd (false≢true e)
places_of-more stream (x ∷ s) q e =
    same_places x.0 q.0 _ _ _ _ _ _ _
    (ap (λ l. unwrap_or (last_number l) 0) (map-append (λ (r : ℕ × TapPacket). r.0) (x ∷ s) (q ∷ [])) ∙ ap (λ o. unwrap_or o 0) (last-more (numbers_in (x ∷ s)) q.0))
    (ask-more stream (x ∷ s) q)
    (ap first_of (records-more reply_at (x ∷ s) q) ∙ first-may (records_of reply_at (x ∷ s)) (record_of reply_at q))
    (records-more (frame_of stream) (x ∷ s) q)

-- ---- what a packet is to its stay

-- a CONNECT is no event
no_event : (k : PacketKind) → is_connect_kind k ≡ true → is_event k ≡ false
no_event kind.Connect e = refl
no_event kind.Disconnect e = refl
no_event kind.Ack e = refl
no_event kind.ConnectError e = refl
no_event kind.BinaryAck e = refl
no_event kind.Event e = absurd (false≢true e)
no_event kind.BinaryEvent e = absurd (false≢true e)

connects_by : (b : Bool) → (b && true) ≡ true → b ≡ true
connects_by true e = refl
connects_by false e = e

-- a reply is no frame
no_frame : (stream : List StreamRec) (p : TapPacket) → is_some (reply_at p) ≡ true → frame_of stream p ≡ None
no_frame stream (FromClient packet) e = refl
no_frame stream (FromServer whole) e =
    let connects = connects_by (is_connect_kind whole.packet.kind) (sym (is_reply-at (FromServer whole)) ∙ e) in
    ap (λ b. option_map (frame_at whole) (option_and_then (recoverable_position stream) (cond (b && is_none whole.packet.id) whole.packet.last None)))
    (no_event whole.packet.kind connects)

either : (b : Bool) (o : Option ℕ) → cond b o o ≡ o
either true o = refl
either false o = refl

-- by a packet of the server
server_grows : {X Y : Type 0} (t : PlacesSeen) (n : ℕ) (r : Option X) (f : Option Y) → (is_some r ≡ true → f ≡ None)
    → ◌≡◌ {A = PlacesSeen} (with_part t n (cond (is_some r) part.Reply (cond (is_some f) part.Frame part.Other)))
    (record { first = t.first; last = n; ask = cond (is_some t.reply) t.ask t.ask; reply = option_or t.reply (option_map (λ x. n) r); frames = t.frames ++ cons_option (option_map (λ x. n) f) [] })
server_grows {Y = Y} t n (Some x) f none =
    same_places t.first n n _ _ _ _ _ _ refl (sym (either (is_some t.reply) t.ask)) refl
    (sym (append-nil t.frames) ∙ ap (λ (o : Option Y). t.frames ++ cons_option (option_map (λ x. n) o) []) (sym (none refl)))
server_grows t n None (Some y) none = same_places t.first n n _ _ _ _ _ _ refl (sym (either (is_some t.reply) t.ask)) (sym (or_none t.reply)) refl
server_grows t n None None none = same_places t.first n n _ _ _ _ _ _ refl (sym (either (is_some t.reply) t.ask)) (sym (or_none t.reply)) (sym (append-nil t.frames))

-- by one of the client
client_grows : {X : Type 0} (t : PlacesSeen) (n : ℕ) (a : Option X)
    → ◌≡◌ {A = PlacesSeen} (with_part t n (cond (is_some a) part.Ask part.Other))
    (record { first = t.first; last = n; ask = cond (is_some t.reply) t.ask (option_or (option_map (λ x. n) a) t.ask); reply = option_or t.reply None; frames = t.frames ++ [] })
client_grows t n (Some x) = same_places t.first n n _ _ _ _ _ _ refl refl (sym (or_none t.reply)) (sym (append-nil t.frames))
client_grows t n None = same_places t.first n n _ _ _ _ _ _ refl (sym (either (is_some t.reply) t.ask)) (sym (or_none t.reply)) (sym (append-nil t.frames))

-- the records grow by what a packet is to the stay
pub grown_by : (stream : List StreamRec) (t : PlacesSeen) (q : PlacedPacket) → with_part t q.0 (part_of stream q.1) ≡ grown_places stream t q
grown_by stream t (n, FromServer whole) = server_grows t n (reply_at (FromServer whole)) (frame_of stream (FromServer whole)) (no_frame stream (FromServer whole))
grown_by stream t (n, FromClient packet) = client_grows t n (asked_in packet)

-- a stay with no frame more
unframed : (stream : List StreamRec) (t : StaySeen) (f : Option FrameSeen) → f ≡ None → t ≡ with_frame stream t f
unframed stream t f none = (λ i. record t { frames = sym (append-nil t.frames) i; altered = sym (or-false t.altered) i }) ∙ ap (with_frame stream t) (sym none)

-- a stay with its reply
pub replied_grown : (stream : List StreamRec) (t : StaySeen) (whole : WholeSeen) (r : ReplySeen) → reply_in whole ≡ Some r → record t { reply = Some r } ≡ grown stream t (FromServer whole)
replied_grown stream t whole r is =
    ap (λ reply. record t { reply = option_or reply t.reply }) (sym is)
    ∙ ap (λ (u : StaySeen). record u { reply = option_or (reply_in whole) u.reply }) (unframed stream t (frame_of stream (FromServer whole)) (no_frame stream (FromServer whole) (ap is_some is)))

-- a stay with what was asked
pub asked_grown : (stream : List StreamRec) (t : StaySeen) (packet : PacketSeen) (o : Option AskedSeen) → asked_in packet ≡ o → record t { asked = option_or o t.asked } ≡ grown stream t (FromClient packet)
asked_grown stream t packet o is =
    ap (λ asked. record t { asked = option_or asked t.asked }) (sym is) ∙ ap (λ (u : StaySeen). record u { asked = option_or (asked_in packet) u.asked }) (unframed stream t None refl)

-- a stay with the frame of a packet of the server that is no reply, if it is one
pub framed_grown : (stream : List StreamRec) (t : StaySeen) (whole : WholeSeen) → reply_at (FromServer whole) ≡ None → with_frame stream t (frame_of stream (FromServer whole)) ≡ grown stream t (FromServer whole)
framed_grown stream t whole none = ap (λ (reply : Option ReplySeen). record (with_frame stream t (frame_of stream (FromServer whole))) { reply = option_or reply t.reply }) (sym none)
