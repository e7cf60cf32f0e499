use Rattle.std.proofs.Common.{◌≡◌, drop, None}
use Rattle.aud_node.specs.Cluster.{node_log}
use Rattle.aud_node.specs.OwnRecords.{own_numbers}
use Rattle.aud_session_facts.specs.Private.Astray.{astray_from}
use Rattle.aud_session_facts.proofs.astray.astray_on.Given as goal

abbrev pub invariant-loop-number : goal.invariant-loop-number
invariant-loop-number l =
    astray_from (node_log l.logs l.node) l.turns l.node (drop l.number-index l.number-items) l.current ≡ astray_from (node_log l.logs l.node) l.turns l.node (own_numbers (node_log l.logs l.node) l.pid) None
