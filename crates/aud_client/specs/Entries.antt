-- When an event that came is the entry at its position.
use Rattle.std.specs.Prelude.{ℕ, Bool, false, not, ◌&&◌, List, Option, Some, None}
use Rattle.std.specs.Cmp.Lexicographic.{pointwise}
use Rattle.std.specs.List.{list_any}
use Rattle.std.specs.Str.{bytes_eq}
use Rattle.aud_tap.specs.declared.records.StreamRec.{StreamRec}
use Rattle.aud_tap.specs.declared.records.StreamRec.TheVariants.{Ev, Other}
use Rattle.aud_node.specs.Stream.{Text, entry}

-- an event that came: the position of its entry in the stream, its text, and its attachments
pub record FrameSeen : Type 0 where
  pub position : ℕ
  pub text : Text
  pub bin : List (List ℕ)

-- the frame is the entry, if there is one: its text and its attachments are the entry's, byte for byte
abbrev pub is_of : FrameSeen → Option StreamRec → Bool
is_of frame None = false
is_of frame (Some (Ev event)) = bytes_eq frame.text event.text && pointwise bytes_eq frame.bin event.bin
is_of frame (Some (Other off)) = false

-- the frame is the entry at its position
abbrev pub is_entry : List StreamRec → FrameSeen → Bool
is_entry stream frame = is_of frame (entry stream frame.position)

-- one of the frames isn't the entry at its position
abbrev pub has_altered : List StreamRec → List FrameSeen → Bool
has_altered stream frames = list_any (λ frame. not (is_entry stream frame)) frames
