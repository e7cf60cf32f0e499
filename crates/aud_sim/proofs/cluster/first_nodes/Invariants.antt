use Rattle.std.proofs.Common.{◌≡◌}
use Rattle.aud_sim.specs.Cluster.{first_nodes}
use Rattle.aud_sim.proofs.cluster.first_nodes.Given as goal

abbrev pub invariant-loop-index : goal.invariant-loop-index
invariant-loop-index l = l.nodes.items ≡ first_nodes l.index
