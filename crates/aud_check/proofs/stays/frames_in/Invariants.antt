use Rattle.std.proofs.Common.{◌≡◌, map, take}
use Rattle.aud_check.specs.Frames.{frames_in}
use Rattle.aud_check.proofs.stays.frames_in.Given as goal

abbrev pub invariant-loop-stay : goal.invariant-loop-stay
invariant-loop-stay l = map (λ frame. frame.now) l.frames.items ≡ frames_in (take l.stay-index (map (λ stay. stay.now) l.stays))
