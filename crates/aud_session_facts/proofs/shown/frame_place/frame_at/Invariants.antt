use Rattle.std.proofs.Common.{◌≡◌, drop}
use Rattle.aud_session_facts.specs.FramePlaces.{frame_at}
use Rattle.aud_session_facts.proofs.shown.frame_place.frame_at.Given as goal

-- what is to come gives where the frame stands
abbrev pub invariant-loop-number : goal.invariant-loop-number
invariant-loop-number l = frame_at l.stays (drop l.number-index l.numbers) l.left ≡ frame_at l.stays l.numbers l.frame
