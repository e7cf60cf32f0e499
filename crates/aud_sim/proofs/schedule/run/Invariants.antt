use Rattle.std.proofs.Common.{◌≡◌, drop}
use Rattle.aud_sim.specs.Cluster.{seen}
use Rattle.aud_sim.specs.Schedule.{scheduled}
use Rattle.aud_sim.proofs.schedule.run.Given as goal

abbrev pub invariant-loop-number : goal.invariant-loop-number
invariant-loop-number l = scheduled l.number (drop l.number l.acts) (seen l.cluster) ≡ scheduled 0 l.acts (seen l.initial.cluster)
