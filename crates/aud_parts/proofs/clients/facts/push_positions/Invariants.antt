use Rattle.std.proofs.Common.{◌≡◌, ◌++◌, map, take}
use Rattle.aud_client.specs.StaySeen.{FrameSeen}
use Rattle.aud_parts.proofs.clients.facts.push_positions.Given as goal

abbrev pub invariant-loop-frame : goal.invariant-loop-frame
invariant-loop-frame l = l.positions.items ≡ l.initial.positions.items ++ map (λ (frame : FrameSeen). frame.position) (take l.frame-index l.stay.frames)
