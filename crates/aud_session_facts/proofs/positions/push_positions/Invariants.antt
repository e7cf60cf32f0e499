use Rattle.std.proofs.Common.{◌≡◌, ◌++◌, map, take}
use Rattle.aud_session_facts.proofs.FramePositions.{position_of}
use Rattle.aud_session_facts.proofs.positions.push_positions.Given as goal

-- the positions of the frames that were gone over
abbrev pub invariant-loop-frame : goal.invariant-loop-frame
invariant-loop-frame l = l.positions.items ≡ l.initial.positions.items ++ map position_of (take l.frame-index l.stay.frames)
