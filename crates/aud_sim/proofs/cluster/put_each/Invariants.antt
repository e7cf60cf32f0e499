use Rattle.std.proofs.Common.{◌≡◌}
use Rattle.aud_sim.specs.Cluster.{with_each}
use Rattle.aud_sim.proofs.cluster.put_each.Given as goal

abbrev pub invariant-loop-index : goal.invariant-loop-index
invariant-loop-index l = l.bundle ≡ with_each l.letter l.rec l.index l.fn.bundle
