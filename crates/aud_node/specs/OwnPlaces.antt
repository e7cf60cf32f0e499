-- The nodes that a session was on.
use Rattle.std.specs.Prelude.{ℕ, Bool, List, length, Some}
use Rattle.std.specs.List.{filter, list_any}
use Rattle.aud_node.specs.Lists.{numbers_from}
use Rattle.aud_node.specs.Stream.{Text}
use Rattle.aud_node.specs.Cluster.{Cluster, node_log}
use Rattle.aud_node.specs.OwnRecords.{record_names}

-- a record in the log of the node at this place names the pid
abbrev pub has_own : Cluster → Text → ℕ → Bool
has_own c pid place = list_any (λ rec. record_names (Some rec) pid) (node_log c place)

-- the places, ascending, of the nodes whose logs have records that name the pid
abbrev pub own_places : Cluster → Text → List ℕ
own_places c pid = filter (has_own c pid) (numbers_from 0 (length c.taps))
