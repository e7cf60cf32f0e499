-- Where the frames of a session stand in the stays of its client's tap.
use Rattle.std.specs.Prelude.{ℕ, List, [], ◌∷◌, ◌-◌, length, Option, Some, None, if◌then◌else◌, nat_lt, slice_get}
use Rattle.aud_client.specs.StaySeen.{StaySeen, FrameSeen}
use Rattle.aud_session_facts.specs.declared.shown.frame_place.FramePlace.{FramePlace}

-- the frames of the stay, if there is one
abbrev pub frames_of : Option StaySeen → List FrameSeen
frames_of None = []
frames_of (Some stay) = stay.frames

-- where the frame with this number stands, over the frames of the stays with these numbers, stay after stay
abbrev pub frame_at : List StaySeen → List ℕ → ℕ → Option FramePlace
frame_at stays [] frame = None
frame_at stays (number ∷ numbers) frame =
    if nat_lt frame (length (frames_of (slice_get stays number)))
    then Some (record { stay = number; frame = frame })
    else frame_at stays numbers (frame - length (frames_of (slice_get stays number)))
