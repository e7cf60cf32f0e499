use Rattle.std.proofs.Common.{◌≡◌, map, take}
use Rattle.aud_node.specs.Recoverable.{is_recoverable}
use Rattle.aud_node.proofs.recoverable.recoverable_in_range.Given as goal

abbrev pub invariant-loop-i : goal.invariant-loop-i
invariant-loop-i l = l.flags.items ≡ map is_recoverable (take l.i l.range)
