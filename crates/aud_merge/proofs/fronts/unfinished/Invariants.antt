use Rattle.std.proofs.Common.{◌≡◌}
use Rattle.aud_merge.specs.Order.{unfinished_fronts}
use Rattle.aud_merge.proofs.fronts.unfinished.Given as goal

-- those of the logs that were gone over
abbrev pub invariant-loop-log : goal.invariant-loop-log
invariant-loop-log l = l.fronts.items ≡ unfinished_fronts l.logs l.state 0 l.log
