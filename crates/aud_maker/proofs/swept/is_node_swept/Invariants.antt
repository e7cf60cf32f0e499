use Rattle.std.proofs.Common.{◌≡◌, drop}
use Rattle.aud_node.specs.Cluster.{node_log}
use Rattle.aud_maker.specs.InTurn.{are_in_turns, is_swept}
use Rattle.aud_maker.proofs.swept.is_node_swept.Given as goal

abbrev pub invariant-loop-number : goal.invariant-loop-number
invariant-loop-number l =
    are_in_turns (node_log l.logs l.node) l.turns l.node (drop l.number-index l.number-items) l.current ≡ is_swept l.logs l.turns l.pid l.node
