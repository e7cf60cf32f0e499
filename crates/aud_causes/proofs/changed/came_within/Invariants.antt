use Rattle.std.proofs.Common.{◌≡◌, filter, map, take}
use Rattle.aud_client.specs.StaySeen.{FrameSeen}
use Rattle.aud_causes.specs.Delivery.{is_replayed}
use Rattle.aud_causes.proofs.changed.came_within.Given as goal

-- those of the frames so far
abbrev pub invariant-loop-frame : goal.invariant-loop-frame
invariant-loop-frame l = l.came.items ≡ filter (is_replayed l.replay) (map (λ (frame : FrameSeen). frame.position) (take l.frame-index l.frame-items))
