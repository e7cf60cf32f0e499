-- Both texts of an event that isn't its entry, in the sentence of its cause.
use Rattle.std.specs.Prelude.{ℕ, List, [], ◌++◌, codes, Option, Some, None, slice_get, ◌+◌, ◌-◌, ◌∷◌, encode_utf8, if◌then◌else◌, length, nat_le, nat_lt}
use Rattle.std.specs.Option.{option_and_then}
use Rattle.aud_tap.specs.declared.records.StreamRec.{StreamRec}
use Rattle.aud_tap.specs.declared.records.StreamRec.TheVariants.{Ev}
use Rattle.aud_node.specs.Cluster.{Cluster}
use Rattle.aud_node.specs.Stream.{Text, entry}
use Rattle.aud_client.specs.StaySeen.{FrameSeen}
use Rattle.aud_session_facts.specs.Recoveries.{stays_at}
use Rattle.aud_check.specs.declared.content.Part.TheVariants as part
use Rattle.aud_session_facts.specs.declared.shown.frame_place.FramePlace.{FramePlace}
use Rattle.aud_session_facts.specs.FramePlaces.{frame_at, frames_of}
use Rattle.aud_causes.specs.declared.cause.Cause.{Cause}
use Rattle.aud_causes.specs.declared.cause.Cause.TheVariants.{AnotherEncoder, Altered}
use Rattle.aud_causes.specs.declared.texts.Apart.{Apart}
use Rattle.std.specs.Str.{chars}

-- ---- what is shown of a text around a byte

-- what is shown of the character that begins at this byte: it, if that is not in front of the other
abbrev pub shown_from : ℕ → ℕ → ℕ → List ℕ
shown_from from place c = if nat_le from place then encode_utf8 c else []

-- two points for what is left out
abbrev pub points : List ℕ
points = codes ".."

-- how many bytes are shown in front of the byte, and from it on
abbrev pub near : ℕ
near = 24

-- what is shown around the one byte of these characters, of which the first begins at the other: those that begin near
-- it; and two points for those behind
abbrev pub chars_around : ℕ → ℕ → List ℕ → List ℕ
chars_around at place [] = []
chars_around at place (c ∷ cs) =
    if nat_le near (place - at) then points else shown_from (at - near) place c ++ chars_around at (place + length (encode_utf8 c)) cs

-- the same of a text
unfoldable pub around : ℕ → ℕ → List ℕ → List ℕ
around at place text = chars_around at place (chars text)

-- the characters of the text that begin in the 24 bytes in front of this byte, and in the 24 bytes from it on; two
-- points stand for what is left out at either end
abbrev pub excerpt : List ℕ → ℕ → List ℕ
excerpt text at = (if nat_lt 0 (at - near) then points else []) ++ around at 0 text

-- ---- both texts

-- the frame whose text parts from its entry's, and the byte at which it does, where the cause speaks of that
abbrev pub apart_in : Cause → Option Apart
apart_in (AnotherEncoder frame (part.Text at)) = Some (record { frame = frame; at = at })
apart_in (Altered frame (part.Text at)) = Some (record { frame = frame; at = at })
apart_in _ = None

-- the session's frame with this number, where these are the numbers of its stays in the client's tap at this place
abbrev pub frame_of : Cluster → List ℕ → ℕ → ℕ → Option FrameSeen
frame_of c numbers frame client =
    option_and_then
    (λ (place : FramePlace). slice_get (frames_of (slice_get (stays_at c client) place.stay)) place.frame)
    (frame_at (stays_at c client) numbers frame)

-- what a frame and its entry have around the byte, if that is an event
abbrev pub texts_against : Option StreamRec → FrameSeen → ℕ → Text
texts_against (Some (Ev event)) frame at =
    codes " It has " ++ excerpt frame.text at ++ codes ", and the entry has " ++ excerpt event.text at ++ codes " there."
texts_against entry frame at = []

-- the same, if there is such a frame
abbrev pub texts_of : List StreamRec → Option FrameSeen → ℕ → Text
texts_of stream None at = []
texts_of stream (Some frame) at = texts_against (entry stream frame.position) frame at

abbrev pub texts_by : Cluster → Option ℕ → List ℕ → Option Apart → Text
texts_by c client numbers None = []
texts_by c client numbers (Some apart) = texts_of c.stream (option_and_then (frame_of c numbers apart.frame) client) apart.at

-- what the sentence of the cause tells of the texts
abbrev pub texts_told : Cluster → Option ℕ → List ℕ → Cause → Text
texts_told c client numbers cause = texts_by c client numbers (apart_in cause)
