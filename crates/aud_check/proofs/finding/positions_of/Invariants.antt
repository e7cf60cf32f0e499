use Rattle.std.proofs.Common.{◌≡◌, map, take}
use Rattle.aud_check.proofs.Cuts.{position_of}
use Rattle.aud_check.proofs.finding.positions_of.Given as goal

abbrev pub invariant-loop-frame : goal.invariant-loop-frame
invariant-loop-frame l = l.positions.items ≡ map position_of (take l.frame-index (map (λ frame. frame.now) l.frames))
