-- What a fault of a client's tap may come from.
use Rattle.std.specs.Prelude.{ℕ, suc, zero, Bool, true, false, not, ◌&&◌, ◌||◌, List, [], ◌∷◌, Option, Some, None, is_none, is_some, if◌then◌else◌, nat_eq, position, slice_get}
use Rattle.std.specs.Option.{option_map}
use Rattle.std.specs.Str.{bytes_eq}
use Rattle.aud_tap.specs.declared.taps.Tap.{Tap}
use Rattle.aud_node.specs.Cluster.{Cluster}
use Rattle.aud_node.specs.Stream.{Text}
use Rattle.aud_client.specs.Received.{TranscriptSeen, transcript_at}
use Rattle.aud_client.specs.StaySeen.{StaySeen}
use Rattle.aud_cert.specs.Certificate.{TurnSeen}
use Rattle.aud_check.specs.NamedStays.{has_sid}
use Rattle.aud_session_facts.specs.Opened.{opened_in}
use Rattle.aud_causes.specs.declared.cause.Cause.{Cause}
use Rattle.aud_causes.specs.declared.cause.Cause.TheVariants.{NoClientTap, ReplyMissing, TwoTaps, SidDiffers, NamespaceDiffers, ClientTapHasNoPackets}
use Rattle.aud_causes.specs.Delivery.{held}
use Rattle.aud_causes.specs.Orphans.{is_disconnect, last_of_stay}
use Rattle.aud_tap.specs.declared.records.ClientRec.{ClientRec}
use Rattle.aud_tap.specs.declared.records.ClientRec.TheVariants.{Conn, Lost}
use Rattle.aud_tap.specs.declared.taps.Records.{Records}
use Rattle.aud_tap.specs.declared.taps.Records.TheVariants as records
use Rattle.aud_session_facts.specs.Marks.{turn_marks}
use Rattle.aud_causes.specs.Turns.{turn_count}

-- ---- the taps that name the session

-- the stay with this number of the client's tap at this place has no reply; and the client asked in it for a session, or it
-- doesn't end by a DISCONNECT: so its CONNECT has no answer, or a CONNECT_ERROR for one, or the answer is missing
abbrev pub is_unanswered : Cluster → ℕ → ℕ → StaySeen → Bool
is_unanswered c client number stay =
    is_none stay.reply && (is_some stay.asked || not (is_disconnect stay.nsp (last_of_stay c client number)))

-- one of these stays is such a one; they count on from this number
abbrev pub has_unanswered : Cluster → ℕ → ℕ → List StaySeen → Bool
has_unanswered c client number [] = false
has_unanswered c client number (stay ∷ stays) =
    if is_unanswered c client number stay then true else has_unanswered c client (suc number) stays

-- the client's tap at this place has events in a stay whose reply names nobody, or that has none; or a stay that was not
-- answered
abbrev pub has_unnamed : Cluster → ℕ → Option TranscriptSeen → Bool
has_unnamed c place None = false
has_unnamed c place (Some transcript) = transcript.orphan || has_unanswered c place 0 transcript.stays

-- the place of the first client's tap of which it is so, among these taps, the first of which is at this place
abbrev pub unnamed_from : Cluster → ℕ → List Tap → Option ℕ
unnamed_from c place [] = None
unnamed_from c place (tap ∷ taps) = if has_unnamed c place (transcript_at c place) then Some place else unnamed_from c (suc place) taps

-- ---- a connection without a packet

-- there is a record, and it begins a connection
abbrev pub begins_connection : Option ClientRec → Bool
begins_connection (Some (Conn c)) = true
begins_connection _ = false

-- there is a record, and it is of packets: neither the begin of a connection nor its loss
abbrev pub is_packet : Option ClientRec → Bool
is_packet None = false
is_packet (Some (Conn c)) = false
is_packet (Some Lost) = false
is_packet (Some _) = true

-- ---- a tap that begins with one

-- these are a client's, and the first begins a connection that no packet follows: it is lost, or another begins, or the
-- tap ends there
abbrev pub are_bare : Records → Bool
are_bare (records.Client recs) = begins_connection (slice_get recs 0) && not (is_packet (slice_get recs 1))
are_bare _ = false

-- the tap is a client's, and its first connection has no packet
abbrev pub is_bare : Tap → Bool
is_bare tap = are_bare tap.records

-- the place of the first such tap among these
abbrev pub bare_place : List Tap → Option ℕ
bare_place taps = position is_bare taps

-- ---- the causes

-- the session has one turn, so that its client had one connection; and a client's tap has one whose packets it doesn't
-- have: the first such tap
abbrev pub tap_without_packets : Cluster → Text → Option Cause
tap_without_packets c pid = if nat_eq (turn_count 0 (turn_marks c pid)) 1 then option_map ClientTapHasNoPackets (bare_place c.taps) else None

-- of so many clients' taps that name the session. None: no tap does; a tap, the first such, has a CONNECT or events of no
-- known session; a tap has a connection without a packet, which may be the session's. Or several
abbrev pub client_causes : Cluster → Text → ℕ → List Cause
client_causes c pid zero = held (Some NoClientTap ∷ option_map ReplyMissing (unnamed_from c 0 c.taps) ∷ tap_without_packets c pid ∷ [])
client_causes c pid (suc zero) = []
client_causes c pid (suc (suc more)) = TwoTaps (suc (suc more)) ∷ []

-- ---- the names

-- the number of the first of the stays whose reply has another sid than this; they count on from this number
abbrev pub other_sid : Text → ℕ → List StaySeen → Option ℕ
other_sid sid number [] = None
other_sid sid number (stay ∷ stays) = if has_sid sid stay.reply then other_sid sid (suc number) stays else Some number

-- that of the first which is of another namespace
abbrev pub other_namespace : Text → ℕ → List StaySeen → Option ℕ
other_namespace nsp number [] = None
other_namespace nsp number (stay ∷ stays) = if bytes_eq stay.nsp nsp then other_namespace nsp (suc number) stays else Some number

-- a reply has another sid: the first such one
abbrev pub sid_differs : Text → List StaySeen → Option Cause
sid_differs sid stays = option_map SidDiffers (other_sid sid 0 stays)

-- a reply is of another namespace: the first such one
abbrev pub namespace_differs : Text → List StaySeen → Option Cause
namespace_differs nsp stays = option_map NamespaceDiffers (other_namespace nsp 0 stays)

-- what differs between this, which the session's first record opens, and these stays, whose replies name the session
abbrev pub names_by : Option (Text × Text × ℕ) → List StaySeen → List Cause
names_by None stays = []
names_by (Some opened) stays = held (sid_differs opened.0 stays ∷ namespace_differs opened.1 stays ∷ [])

-- the same of the first of these turns
abbrev pub names_causes : List TurnSeen → List StaySeen → List Cause
names_causes turns stays = names_by (opened_in turns) stays
