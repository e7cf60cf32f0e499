use Rattle.std.proofs.Common.{take}
use Rattle.std.specs.List.{All}
use Rattle.aud_node.specs.Cluster.{node_log}
use Rattle.aud_maker.specs.Private.Begun.{BeginsUpTo}
use Rattle.aud_maker.proofs.begun.last_begun.Given as goal

abbrev pub invariant-loop-node : goal.invariant-loop-node
invariant-loop-node l = All (λ node. BeginsUpTo (node_log l.logs node) l.pid l.last) (take l.node-index l.nodes)
