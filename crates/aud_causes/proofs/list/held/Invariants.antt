use Rattle.std.proofs.Common.{◌≡◌, take}
use Rattle.aud_causes.specs.Delivery.{held}
use Rattle.aud_causes.proofs.list.held.Given as goal

-- those of the causes so far
abbrev pub invariant-loop-cause : goal.invariant-loop-cause
invariant-loop-cause l = l.found.items ≡ held (take l.cause-index l.causes)
