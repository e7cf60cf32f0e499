-- What came twice because a body of polling did.
use Rattle.std.specs.Prelude.{ℕ, ◌-◌, true, false, not, ◌&&◌, List, [], ◌∷◌, length, Option, Some, None, if◌then◌else◌, nat_eq, nat_lt, slice_get, take}
use Rattle.std.specs.Option.{option_and_then, option_or}
use Rattle.std.specs.Str.{bytes_eq}
use Rattle.aud_tap.specs.declared.records.ClientRec.{ClientRec}
use Rattle.aud_tap.specs.declared.records.ClientRec.TheVariants.{Poll}
use Rattle.aud_node.specs.Cluster.{Cluster}
use Rattle.aud_node.specs.NodeTaps.{client_at}
use Rattle.aud_node.specs.Stream.{Text}
use Rattle.aud_client.specs.Received.{TranscriptSeen, transcript_at}
use Rattle.aud_client.specs.StayPlaces.{PlacesSeen}
use Rattle.aud_session_facts.specs.Recoveries.{stays_at}
use Rattle.aud_session_facts.specs.declared.shown.frame_place.FramePlace.{FramePlace}
use Rattle.aud_session_facts.specs.FramePlaces.{frame_at}
use Rattle.aud_causes.specs.declared.cause.Cause.{Cause}
use Rattle.aud_causes.specs.declared.cause.Cause.TheVariants.{BodyCameTwice}
use Rattle.aud_causes.specs.declared.facts.Facts.{Facts}
use Rattle.aud_causes.specs.Delivery.{cause_if}

-- ---- the records of frames

-- the records at which the frames of the stay stand, if there is one
abbrev pub frames_there : Option PlacesSeen → List ℕ
frames_there None = []
frames_there (Some p) = p.frames

-- the records of the stays of the client's tap at this place
abbrev pub places_at : Cluster → ℕ → List PlacesSeen
places_at c client = places_told (transcript_at c client)
  where
    places_told : Option TranscriptSeen → List PlacesSeen
    places_told None = []
    places_told (Some transcript) = transcript.places

-- the record with this number of the client's tap at this place
abbrev pub client_record : Cluster → ℕ → ℕ → Option ClientRec
client_record c client number = option_and_then (λ (recs : List ClientRec). slice_get recs number) (client_at c client)

-- the record of a session's frame, where these are the numbers of its stays in the client's tap at this place
abbrev pub record_of : Cluster → ℕ → List ℕ → ℕ → Option ℕ
record_of c client numbers frame =
    option_and_then
    (λ (at : FramePlace). slice_get (frames_there (slice_get (places_at c client) at.stay)) at.frame)
    (frame_at (stays_at c client) numbers frame)

-- the last of these
abbrev pub last_of : List ℕ → Option ℕ
last_of numbers = slice_get numbers (length numbers - 1)

-- the record of the last frame in the stays with these numbers, where this is the last so far
abbrev pub last_record : List PlacesSeen → Option ℕ → List ℕ → Option ℕ
last_record places last [] = last
last_record places last (number ∷ numbers) = last_record places (option_or (last_of (frames_there (slice_get places number))) last) numbers

-- ---- the cause

-- the text of the record with this number of the client's tap at this place, if that is a body of polling
abbrev pub body_at : Cluster → ℕ → ℕ → Option Text
body_at c client number = body_in (client_record c client number)
  where
    body_in : Option ClientRec → Option Text
    body_in (Some (Poll t)) = Some t
    body_in _ = None

-- the two frames stand in one stay, and the record of the other is another body of polling of the same text as this one
abbrev pub equal_body : Cluster → ℕ → List ℕ → Facts → ℕ → Text → Option Cause
equal_body c client numbers f number body =
    option_and_then
    (λ other.
    option_and_then
    (λ text. cause_if (not (nat_eq number other) && bytes_eq body text) (BodyCameTwice f.parted.first f.parted.again true))
    (body_at c client other))
    (record_of c client numbers f.parted.again)

-- they stand in two; and what came of the session from the first one on, up to the later stay, came in this body of polling
abbrev pub one_body : Cluster → ℕ → List ℕ → Facts → ℕ → Option Cause
one_body c client numbers f number =
    option_and_then
    (λ last. cause_if (nat_lt f.earlier f.later && nat_eq number last) (BodyCameTwice f.parted.first f.parted.again false))
    (last_record (places_at c client) None (take f.later numbers))

-- the first frame came in a body of polling, of which one of these is so
abbrev pub body_twice : Cluster → ℕ → List ℕ → Facts → Option Cause
body_twice c client numbers f =
    option_and_then
    (λ number.
    option_and_then
    (λ body. if nat_eq f.earlier f.later then equal_body c client numbers f number body else one_body c client numbers f number)
    (body_at c client number))
    (record_of c client numbers f.parted.first)
