use Rattle.std.proofs.Common.{arith}
use Rattle.std.proofs.lemmas.Grind.{common_steps}
use Rattle.std.proofs.lemmas.List.Sums.{count_by-le-length}
use Rattle.aud_sim.proofs.node.Node.join.Goals as goal

pub insert-requires : goal.insert-requires
insert-requires c = grind (arith, common_steps, c.earlier-before.ensures, count_by-le-length)
