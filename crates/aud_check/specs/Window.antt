-- Recoveries that were asked for where they do not fit what had come.
use Rattle.std.specs.Prelude.{◌≡◌, ◌<◌, ◌≤◌, ◌+◌, ℕ, Bool, true, false, List, [], ◌∷◌, length, map, take, drop, Option, Some, None, slice_get}
use Rattle.std.specs.Option.{option_and_then}
use Rattle.aud_tap.specs.declared.records.StreamRec.{StreamRec}
use Rattle.aud_node.specs.Stream.{Text, position}
use Rattle.aud_client.specs.StaySeen.{AskedSeen, StaySeen, FrameSeen}
use Rattle.aud_client.specs.Received.{is_recovered}
use Rattle.aud_check.specs.Frames.{asked_position, frames_in, is_asked_wrongly, wrong_window}
use Rattle.aud_check.specs.declared.window.BadWindow.{BadWindow}
use Rattle.aud_check.specs.declared.window.Misfit.{Misfit}
use Rattle.aud_check.specs.declared.window.Misfit.TheVariants.{NoOffset, Unknown, Behind, NotBehind}

-- the offset after which the client asked to go on, if it gave one
abbrev pub asked_offset : Option AskedSeen → Option Text
asked_offset asked = option_and_then (λ (a : AskedSeen). a.offset) asked

-- the positions of the frames of stays, stay after stay
abbrev pub positions_received : List StaySeen → List ℕ
positions_received stays = map (λ (frame : FrameSeen). frame.position) (frames_in stays)

-- the client asked to go on after a position; so many frames had come, and the last of them is past it
pub record IsBehind (positions : List ℕ) (asked : Option ℕ) (count frame : ℕ) : Type 0 where
  pub after : ℕ
  pub asked_is : asked ≡ Some after
  pub is_last : frame + 1 ≡ count
  pub position : ℕ
  pub is_there : slice_get positions frame ≡ Some position
  pub is_past : after < position

-- the client asked to go on after a position; so many frames had come, and the next one isn't past it
pub record IsNotBehind (positions : List ℕ) (asked : Option ℕ) (count frame : ℕ) : Type 0 where
  pub after : ℕ
  pub asked_is : asked ≡ Some after
  pub is_next : frame ≡ count
  pub position : ℕ
  pub is_there : slice_get positions frame ≡ Some position
  pub is_not_past : position ≤ after

-- why that for which the client asked doesn't fit so many frames of these positions and those after them: it gave no
-- offset; or one that the stream doesn't have; or one behind the last frame in front; or one not behind the next
abbrev pub IsMisfit : List StreamRec → List ℕ → Option AskedSeen → ℕ → Misfit → Type 0
IsMisfit stream positions asked count NoOffset = asked_offset asked ≡ None
IsMisfit stream positions asked count Unknown = (off : Text) × (asked_offset asked ≡ Some off) × (position stream off ≡ None)
IsMisfit stream positions asked count (Behind frame) = IsBehind positions (asked_position stream asked) count frame
IsMisfit stream positions asked count (NotBehind frame) = IsNotBehind positions (asked_position stream asked) count frame

-- after these stays one comes that is recovered, and was not asked to go on between the frames in front and those from
-- it on
abbrev pub is_next_bad : List StreamRec → List StaySeen → List StaySeen → Bool
is_next_bad stream before [] = false
is_next_bad stream before (stay ∷ after) = is_asked_wrongly stream before stay after

-- the stay with this number is such a one
abbrev pub is_bad_window : List StreamRec → List StaySeen → ℕ → Bool
is_bad_window stream stays number = is_next_bad stream (take number stays) (drop number stays)

-- of the stays this one is the first such, and why; its connection is the one that a verdict names
pub record IsBadWindow (stream : List StreamRec) (stays : List StaySeen) (found : BadWindow) : Type 0 where
  pub stay : StaySeen
  pub is_there : slice_get stays found.stay ≡ Some stay
  pub is_recovered : is_recovered stay ≡ true
  pub is_bad : is_bad_window stream stays found.stay ≡ true
  pub before : (earlier : ℕ) → earlier < found.stay → is_bad_window stream stays earlier ≡ false
  pub why : IsMisfit stream (positions_received stays) stay.asked (length (frames_in (take found.stay stays))) found.why
  pub connection : found.c ≡ stay.c
  pub named : wrong_window stream [] stays ≡ Some found.c
