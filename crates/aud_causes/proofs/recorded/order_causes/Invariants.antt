use Rattle.std.proofs.Common.{◌≡◌, take}
use Rattle.aud_causes.specs.Recorded.{order_causes}
use Rattle.aud_causes.proofs.recorded.order_causes.Given as goal

-- those of the records so far
abbrev pub invariant-loop-place : goal.invariant-loop-place
invariant-loop-place l = l.found.items ≡ order_causes l.logs (take l.place-index l.unordered)
