use Rattle.std.proofs.Common.{◌≡◌}
use Rattle.aud_base.specs.Lists.{numbers_from}
use Rattle.aud_base.proofs.parallel.numbers_to.Given as goal

abbrev pub invariant-loop-number : goal.invariant-loop-number
invariant-loop-number l = l.numbers.items ≡ numbers_from 0 l.number
