-- Where a packet is a reply that names a session, the reply of a stay does, and the other way round.
use Rattle.std.proofs.Common.{◌≡◌, ℕ, Bool, true, false, ◌||◌, List, [], ◌∷◌, ◌++◌, flat_map, refl, sym, ap, ◌∙◌, arith}
use Rattle.std.specs.List.{list_any}
use Rattle.std.proofs.lemmas.Bool.{false≢true}
use Rattle.std.proofs.lemmas.List.{append_assoc, append-nil}
use Rattle.std.proofs.lemmas.List.Folds.{list_any-append}
use Rattle.aud_tap.specs.declared.records.StreamRec.{StreamRec}
use Rattle.aud_tap.specs.declared.records.ClientRec.{ClientRec}
use Rattle.aud_node.specs.Stream.{Text}
use Rattle.aud_base.proofs.Lists.{any-map}
use Rattle.aud_client.specs.TapPackets.{TapPacket, FromServer, FromClient, Connection, tap_packets}
use Rattle.aud_client.specs.Replies.{reply_names, packet_names, connection_names, tap_names}
use Rattle.aud_client.specs.Stays.{namespace, goes_on, stay_after, begins_stay, stays}
use Rattle.aud_client.specs.Open.{has_stay}
use Rattle.aud_client.specs.StaySeen.{reply_at, reply_of, stay_of}
use Rattle.aud_client.specs.Received.{connection_packets, stays_of, stay_names_pid, transcript_of}
use Rattle.aud_client.proofs.OnePass.{grow, last_in, last_in-none, last_in-stays, stays-begins, stays-goes_on}
use Rattle.aud_client.proofs.Telling.{no_reply_at, reply_of-one, replied, unreplied, none_yet, no_connect}

-- the stay's reply names the session
abbrev pub stay_names : Text → List TapPacket → Bool
stay_names pid stay = reply_names pid (reply_of stay)

-- ---- one packet more

-- a packet names the session where its reply does
at_packet : (pid : Text) (p : TapPacket) → reply_names pid (reply_at p) ≡ packet_names pid p
at_packet pid (FromServer whole) = refl
at_packet pid (FromClient packet) = refl

-- a stay of one packet
alone : (pid : Text) (p : TapPacket) → stay_names pid (p ∷ []) ≡ packet_names pid p
alone pid p = ap (reply_names pid) (reply_of-one p) ∙ at_packet pid p

-- a stay with one packet more
names-more : (pid : Text) (s : List TapPacket) (p : TapPacket) → goes_on s p ≡ true → stay_names pid (s ++ p ∷ []) ≡ (stay_names pid s || packet_names pid p)
names-more pid s p e =
    grind (arith, replied s (p ∷ []), unreplied s (p ∷ []), none_yet s, at_packet pid p, alone pid p, no_reply_at p, no_connect s p e)

-- any of the stays, where the last one of the namespace grows
any-grow : (test : List TapPacket → Bool) (b : Bool) (n : Text) (p : TapPacket) (ss : List (List TapPacket)) → has_stay n ss ≡ true
    → test (last_in n ss ++ p ∷ []) ≡ (test (last_in n ss) || b) → list_any test (grow n p ss) ≡ (list_any test ss || b)
any-grow test b n p [] some e = absurd (false≢true some)
any-grow test b n p (s ∷ ss) some e = grind (arith, any-grow test b n p ss)

-- where a packet goes on with a stay, there is one
has-goes_on : (l : List TapPacket) (p : TapPacket) → begins_stay l p ≡ false → has_stay (namespace p) (stays l) ≡ true
has-goes_on l p e = grind (arith, last_in-stays (namespace p) l, last_in-none (namespace p) (stays l))

-- ---- a connection, and a tap

-- the stays name the session where the packets do
abbrev pub NamedAlike : Text → List TapPacket → Type 0
NamedAlike pid l = list_any (stay_names pid) (stays l) ≡ list_any (packet_names pid) l

-- one packet more
one_more : (pid : Text) (l : List TapPacket) (p : TapPacket) → NamedAlike pid l → NamedAlike pid (l ++ p ∷ [])
one_more pid l p ih =
    grind (arith, ih, list_any-append (packet_names pid) l (p ∷ []), stays-begins [] l p, list_any-append (stay_names pid) (stays l) ((p ∷ []) ∷ []), alone pid p, stays-goes_on [] l p, any-grow (stay_names pid) (packet_names pid p) (namespace p) p (stays l), has-goes_on l p, last_in-stays (namespace p) l, names-more pid (stay_after (namespace p) l) p)

all_more : (pid : Text) (done after : List TapPacket) → NamedAlike pid done → NamedAlike pid (done ++ after)
all_more pid done [] ih = ap (λ l. list_any (stay_names pid) (stays l)) (append-nil done) ∙ ih ∙ ap (list_any (packet_names pid)) (sym (append-nil done))
all_more pid done (p ∷ after) ih =
    ap (λ l. list_any (stay_names pid) (stays l)) (sym (append_assoc done (p ∷ []) after))
    ∙ all_more pid (done ++ p ∷ []) after (one_more pid done p ih)
    ∙ ap (list_any (packet_names pid)) (append_assoc done (p ∷ []) after)

-- all packets of a connection
pub named_alike : (pid : Text) (l : List TapPacket) → NamedAlike pid l
named_alike pid l = all_more pid [] l refl

-- a connection, as contracts see it
in_connection : (stream : List StreamRec) (pid : Text) (connection : Connection) → list_any (stay_names_pid pid) (stays_of stream connection) ≡ connection_names pid connection
in_connection stream pid connection =
    any-map (stay_names_pid pid) (stay_of stream connection.c) (stays (connection_packets connection))
    ∙ named_alike pid (connection_packets connection)
    ∙ any-map (packet_names pid) (λ (placed : ℕ × TapPacket). placed.1) connection.packets

-- connection after connection
in_connections : (stream : List StreamRec) (pid : Text) (connections : List Connection)
    → list_any (stay_names_pid pid) (flat_map (stays_of stream) connections) ≡ list_any (connection_names pid) connections
in_connections stream pid [] = refl
in_connections stream pid (connection ∷ connections) =
    list_any-append (stay_names_pid pid) (stays_of stream connection) (flat_map (stays_of stream) connections)
    ∙ ap (λ b. b || list_any (stay_names_pid pid) (flat_map (stays_of stream) connections)) (in_connection stream pid connection)
    ∙ ap (λ b. connection_names pid connection || b) (in_connections stream pid connections)

-- a tap
pub named_by_replies : (stream : List StreamRec) (recs : List ClientRec) (pid : Text) → list_any (stay_names_pid pid) (transcript_of stream recs).stays ≡ tap_names pid recs
named_by_replies stream recs pid = in_connections stream pid (tap_packets recs).connections
