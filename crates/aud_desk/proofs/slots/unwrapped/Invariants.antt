use Rattle.std.proofs.Common.{◌≡◌, Some, map}
use Rattle.aud_desk.proofs.slots.unwrapped.Given as goal

abbrev pub invariant-loop-slot : goal.invariant-loop-slot
invariant-loop-slot l = map Some l.verdicts.items ≡ l.yielded
