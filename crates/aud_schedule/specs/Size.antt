-- How many nodes and clients a cluster has.
use Rattle.std.specs.Prelude.{ℕ, ◌≤◌}
use Rattle.aud_schedule.specs.declared.course.Size.{Size}

-- a number from 1 to this one
abbrev pub IsUpTo : ℕ → ℕ → Type 0
IsUpTo most n = (1 ≤ n) × (n ≤ most)

-- at least one node and one client, and no more than a cluster has
pub record IsCluster (size : Size) : Type 0 where
  pub some_nodes : 1 ≤ size.nodes
  pub few_nodes : size.nodes ≤ 64
  pub some_clients : 1 ≤ size.clients
  pub few_clients : size.clients ≤ 4096
