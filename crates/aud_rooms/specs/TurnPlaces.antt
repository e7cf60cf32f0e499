-- Where the turns of a session stand in the nodes' logs.
use Rattle.std.specs.Prelude.{◌≡◌, ◌<◌, ◌≤◌, ℕ, true, Bool, List, length, nat_le, nat_lt, ◌&&◌}
use Rattle.std.specs.List.{filter}
use Rattle.aud_tap.specs.declared.records.NodeRec.{NodeRec}
use Rattle.aud_node.specs.Stream.{Text}
use Rattle.aud_node.specs.Cluster.{Cluster, node_log}
use Rattle.aud_node.specs.Ordered.{is_ordered}
use Rattle.aud_node.specs.OwnRecords.{own_numbers}
use Rattle.aud_rooms.specs.Turns.{Turn}

-- the turn has records, and they stand in its node's log
pub record IsWithin (c : Cluster) (t : Turn) : Type 0 where
  pub some : t.from < t.to
  pub within : t.to ≤ length (node_log c t.node)

-- the turn has records, they stand in its node's log, and that log is ordered
pub record IsInOrder (c : Cluster) (t : Turn) : Type 0 where
  pub is_within : IsWithin c t
  pub ordered : is_ordered c.stream (node_log c t.node) ≡ true

-- the number is one from the first on and before the second
abbrev pub is_between : ℕ → ℕ → ℕ → Bool
is_between from to number = nat_le from number && nat_lt number to

-- the numbers, ascending, of the log's records that name the pid, from one number on and before another
abbrev pub own_between : List NodeRec → Text → ℕ → ℕ → List ℕ
own_between log pid from to = filter (is_between from to) (own_numbers log pid)
