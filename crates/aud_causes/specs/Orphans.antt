-- What events may come from of which nobody knows the session.
use Rattle.std.specs.Prelude.{ℕ, suc, Bool, true, false, not, ◌&&◌, ◌||◌, ◌++◌, List, [], ◌∷◌, Option, Some, None, Result, Ok, Err, is_none, is_some, if◌then◌else◌, nat_eq, slice_get, take}
use Rattle.std.specs.List.{list_any}
use Rattle.std.specs.Option.{option_and_then}
use Rattle.std.specs.Result.{result_ok}
use Rattle.std.specs.Str.{bytes_eq}
use Rattle.aud_tap.specs.declared.records.ClientRec.{ClientRec}
use Rattle.aud_tap.specs.declared.records.ClientRec.TheVariants.{Conn, Lost, TextOut}
use Rattle.aud_eio.specs.Packet as eio
use Rattle.aud_sio.specs.declared.fault.SioFault.{SioFault}
use Rattle.aud_sio.specs.Packet.{PacketSeen, packet_of}
use Rattle.aud_node.specs.Cluster.{Cluster}
use Rattle.aud_node.specs.Stream.{Text}
use Rattle.aud_client.specs.Replies.{ReplySeen}
use Rattle.aud_client.specs.StayPlaces.{PlacesSeen}
use Rattle.aud_client.specs.Stays.{is_disconnect_kind}
use Rattle.aud_client.specs.StaySeen.{AskedSeen, StaySeen}
use Rattle.aud_client.specs.TapPackets.{engine_packets, one_of}
use Rattle.aud_session_facts.specs.Recoveries.{stays_at}
use Rattle.aud_causes.specs.declared.cause.Cause.{Cause}
use Rattle.aud_causes.specs.declared.cause.Cause.TheVariants.{TapBeganLate, CutBeforeReply, ReplyMissing, ReplyWithoutPid, OutAfterAnswer, SecondConnect, AfterDisconnect}
use Rattle.aud_causes.specs.Bodies.{client_record, places_at}
use Rattle.aud_causes.specs.Delivery.{cause_if, held}

-- ---- the stay before it

-- the number of the last of these stays that is of the same connection and namespace, where this is the last so far; they
-- count on from this number
abbrev pub last_beside : StaySeen → Option ℕ → ℕ → List StaySeen → Option ℕ
last_beside stay last number [] = last
last_beside stay last number (other ∷ stays) =
    last_beside stay (if nat_eq other.c stay.c && bytes_eq other.nsp stay.nsp then Some number else last) (suc number) stays

-- of the stays before the one with this number
abbrev pub stay_before : List StaySeen → ℕ → StaySeen → Option ℕ
stay_before stays number stay = last_beside stay None 0 (take number stays)

-- ---- how that ended

-- the packet that a message spells is a DISCONNECT of this namespace (Socket.IO protocol 5, "Disconnection from a
-- namespace")
abbrev pub spells_disconnect : Text → Result PacketSeen SioFault → Bool
spells_disconnect nsp (Ok packet) = is_disconnect_kind packet.kind && bytes_eq packet.nsp nsp
spells_disconnect nsp (Err fault) = false

-- the Engine.IO packet carries one
abbrev pub carries_disconnect : Text → eio.Packet → Bool
carries_disconnect nsp (eio.Message text) = spells_disconnect nsp (packet_of text)
carries_disconnect nsp packet = false

-- one of these packets, if they are given, carries one
abbrev pub carry_disconnect : Text → Option (List eio.Packet) → Bool
carry_disconnect nsp None = false
carry_disconnect nsp (Some packets) = list_any (carries_disconnect nsp) packets

-- the record is of the client's packet, and that carries one
abbrev pub sends_disconnect : Text → ClientRec → Bool
sends_disconnect nsp (TextOut t) = carry_disconnect nsp (result_ok (one_of (eio.engine_packet_of t)))
sends_disconnect nsp rec = false

-- some packet of the record, if there is one, is a DISCONNECT of this namespace: one of the server's packets in it, or the
-- client's packet
abbrev pub is_disconnect : Text → Option ClientRec → Bool
is_disconnect nsp None = false
is_disconnect nsp (Some rec) = sends_disconnect nsp rec || carry_disconnect nsp (result_ok (engine_packets rec))

-- the last record of the stay with this number of the client's tap at this place
abbrev pub last_of_stay : Cluster → ℕ → ℕ → Option ClientRec
last_of_stay c client number = option_and_then (λ (p : PlacesSeen). client_record c client p.last) (slice_get (places_at c client) number)

-- ---- how it began

-- the record is the client's
abbrev pub is_sent : Option ClientRec → Bool
is_sent (Some (TextOut t)) = true
is_sent _ = false

-- the stay begins with the client's CONNECT: with a packet of the client, since one that begins with its DISCONNECT has
-- nothing else
abbrev pub is_asked_first : Cluster → ℕ → ℕ → Bool
is_asked_first c client number =
    is_sent (option_and_then (λ (p : PlacesSeen). client_record c client p.first) (slice_get (places_at c client) number))

-- ---- the tap's begin

-- the record begins the connection with this number
abbrev pub begins : ℕ → Option ClientRec → Bool
begins conn (Some (Conn c)) = nat_eq c conn
begins conn _ = false

-- nothing says that the tap has the connection from its beginning: the stay is the tap's first one, in its first
-- connection, and doesn't begin with the client's CONNECT
abbrev pub began_late : Cluster → ℕ → ℕ → StaySeen → Bool → Bool
began_late c client number stay asked_first = nat_eq number 0 && begins stay.c (client_record c client 0) && not asked_first

-- ---- the connection's end

-- the record after the stay's last one, of the stay with this number of the client's tap at this place
abbrev pub next_of_stay : Cluster → ℕ → ℕ → Option ClientRec
next_of_stay c client number = option_and_then (λ (p : PlacesSeen). client_record c client (suc p.last)) (slice_get (places_at c client) number)

-- the connection is over: it is lost, or another one begins
abbrev pub ends_connection : ClientRec → Bool
ends_connection Lost = true
ends_connection (Conn c) = true
ends_connection _ = false

-- so it is at the record, if there is one
abbrev pub is_cut : Option ClientRec → Bool
is_cut None = false
is_cut (Some r) = ends_connection r

-- the record doesn't say that the connection goes on: so it is, or the tap ends there
abbrev pub may_be_cut : Option ClientRec → Bool
may_be_cut None = true
may_be_cut (Some r) = ends_connection r

-- ---- the causes

-- events came without a reply: the client asked for a session, and the connection doesn't go on, by the record that comes
-- next; or it did not ask, and the tap may have begun late
abbrev pub without_reply : ℕ → Option AskedSeen → Option ClientRec → Bool → Option Cause
without_reply number (Some asked) next late = cause_if (may_be_cut next) (CutBeforeReply number)
without_reply number None next late = cause_if late (TapBeganLate number)

-- no reply is recorded: the client asked for a session, and nothing says that the connection was cut before the reply; or it
-- asked for none, and its CONNECT is the first of the namespace on the connection, so that no event comes before its
-- reply (Socket.IO protocol 5, "Connection to a namespace")
abbrev pub reply_lost : ℕ → Option AskedSeen → Bool → Option ClientRec → Option Cause
reply_lost client (Some asked) connected next = cause_if (not (is_cut next)) (ReplyMissing client)
reply_lost client None connected next = cause_if connected (ReplyMissing client)

-- in the stay before no session was asked for, and it doesn't begin with the client's CONNECT
abbrev pub out_after_answer : ℕ → ℕ → StaySeen → Bool → Option Cause
out_after_answer number before stay asked_first = cause_if (is_none stay.asked && not asked_first) (OutAfterAnswer before number)

-- the stay before was answered: and its CONNECT may be recorded after its answer; or anyhow
abbrev pub answered_causes : ℕ → ℕ → StaySeen → Bool → List Cause
answered_causes number before stay asked_first =
    if is_some stay.reply then held (out_after_answer number before stay asked_first ∷ Some (SecondConnect before number) ∷ []) else []

-- the stay before, if there is one, ended by a DISCONNECT; or else it was answered
abbrev pub before_causes : Cluster → ℕ → ℕ → ℕ → Option StaySeen → List Cause
before_causes c client number before None = []
before_causes c client number before (Some stay) =
    if is_disconnect stay.nsp (last_of_stay c client before)
    then AfterDisconnect before number ∷ []
    else answered_causes number before stay (is_asked_first c client before)

-- the same of the stay with this number, if it is given
abbrev pub causes_of_before : Cluster → ℕ → ℕ → Option ℕ → List Cause
causes_of_before c client number None = []
causes_of_before c client number (Some before) = before_causes c client number before (slice_get (stays_at c client) before)

-- of events in this stay without a reply, of the client's tap
abbrev pub unreplied_causes : Cluster → ℕ → ℕ → StaySeen → List Cause
unreplied_causes c client number stay =
    let before = stay_before (stays_at c client) number stay in
    let asked_first = is_asked_first c client number in
    let next = next_of_stay c client number in
    held
    (without_reply number stay.asked next (began_late c client number stay asked_first)
    ∷ reply_lost client stay.asked (asked_first && is_none before) next ∷ [])
    ++ causes_of_before c client number before

-- of events in a stay with this reply, or without one: the reply names nobody
abbrev pub replied_causes : Cluster → ℕ → ℕ → StaySeen → Option ReplySeen → List Cause
replied_causes c client number stay None = unreplied_causes c client number stay
replied_causes c client number stay (Some reply) = if is_some reply.pid then [] else ReplyWithoutPid number ∷ []

-- of events in the stay with this number of the client's tap at this place
abbrev pub orphan_causes_of : Cluster → ℕ → ℕ → Option StaySeen → List Cause
orphan_causes_of c client number None = []
orphan_causes_of c client number (Some stay) = replied_causes c client number stay stay.reply

-- the same of that with this number, if it is given
abbrev pub orphan_at : Cluster → ℕ → Option ℕ → List Cause
orphan_at c client None = []
orphan_at c client (Some number) = orphan_causes_of c client number (slice_get (stays_at c client) number)
