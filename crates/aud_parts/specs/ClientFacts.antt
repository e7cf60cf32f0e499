-- Which events came to a client, by the positions of their entries in the stream. Positions count from 1.
use Rattle.std.specs.Prelude.{◌≡◌, ℕ, Bool, true, List, map, Some, nat_eq}
use Rattle.std.specs.List.{list_any}
use Rattle.aud_tap.specs.declared.records.StreamRec.{StreamRec}
use Rattle.aud_tap.specs.declared.records.ClientRec.{ClientRec}
use Rattle.aud_tap.specs.declared.taps.Records.TheVariants.{Client}
use Rattle.aud_node.specs.Stream.{Text, position}
use Rattle.aud_node.specs.AtPosition.{is_recoverable_at}
use Rattle.aud_client.specs.StaySeen.{FrameSeen, StaySeen}
use Rattle.aud_client.specs.Received.{transcript_of}
use Rattle.aud_parts.specs.MadeOther.{tell_event}

-- the position is one of these
abbrev pub is_one_of : List ℕ → ℕ → Bool
is_one_of positions position = list_any (nat_eq position) positions

-- the positions of the stay's frames, in their order
abbrev pub frame_positions : StaySeen → List ℕ
frame_positions stay = map (λ (frame : FrameSeen). frame.position) stay.frames

-- a frame of the stay has the position
abbrev pub has_frame_at : ℕ → StaySeen → Bool
has_frame_at position stay = is_one_of (frame_positions stay) position

-- in a stay of the client's tap a frame has the position
abbrev pub has_come_at : List StreamRec → List ClientRec → ℕ → Bool
has_come_at stream recs position = list_any (has_frame_at position) (transcript_of stream recs).stays

-- of each recoverable entry that is found by its offset, the position is one of these where a packet of the client's tap
-- is an event that ends in the offset
abbrev pub TellEvents : List StreamRec → List ClientRec → List ℕ → Type 0
TellEvents stream recs came =
    (place : ℕ) (off : Text) → position stream off ≡ Some place → is_recoverable_at stream place ≡ true
    → is_one_of came place ≡ tell_event off (Client recs)
