use Rattle.std.proofs.Common.{◌≡◌, ◌-◌, ◌≤◌, ◌<◌, suc}
use Rattle.aud_node.specs.Cluster.{node_log}
use Rattle.aud_node.specs.Cursors.{cursor_at}
use Rattle.aud_merge.specs.ByTurns.{first_reaching}
use Rattle.aud_session_facts.proofs.search.first_reaching.Given as goal

-- what comes before `low` is passed over, and after the record at `high`, if it is one of the turn's, the cursor
-- reaches the position
abbrev pub invariant-loop-low : goal.invariant-loop-low
invariant-loop-low l =
    record {
      within : l.high ≤ l.turn-inside.to;
      same : first_reaching l.logs.stream (node_log l.logs l.turn-inside.node) l.position l.low (l.turn-inside.to - l.low) ≡ first_reaching l.logs.stream (node_log l.logs l.turn-inside.node) l.position l.turn-inside.from (l.turn-inside.to - l.turn-inside.from);
      reaches : l.high < l.turn-inside.to → l.position ≤ cursor_at l.logs.stream (node_log l.logs l.turn-inside.node) (suc l.high);
    }

abbrev pub decreases-loop-low : goal.decreases-loop-low
decreases-loop-low l = l.high - l.low
