use Rattle.std.proofs.Common.{◌≡◌}
use Rattle.aud_sim.specs.Cluster.{first_clients}
use Rattle.aud_sim.proofs.cluster.first_clients.Given as goal

abbrev pub invariant-loop-index : goal.invariant-loop-index
invariant-loop-index l = l.clients.items ≡ first_clients l.index
