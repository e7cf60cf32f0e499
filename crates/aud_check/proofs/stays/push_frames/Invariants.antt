use Rattle.std.proofs.Common.{◌≡◌, ◌++◌, map, take}
use Rattle.aud_check.proofs.stays.push_frames.Given as goal

abbrev pub invariant-loop-frame : goal.invariant-loop-frame
invariant-loop-frame l = map (λ frame. frame.now) l.frames.items ≡ map (λ frame. frame.now) l.initial.frames.items ++ take l.frame-index l.stay.frames
