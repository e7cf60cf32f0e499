-- How a reach is found.
use Rattle.std.specs.Prelude.{ℕ, suc, ◌-◌, List, [], ◌∷◌, Option, None, if◌then◌else◌, nat_le}
use Rattle.std.specs.Option.{option_map}
use Rattle.aud_node.specs.Cluster.{Cluster, node_log}
use Rattle.aud_rooms.specs.Turns.{Turn, slice_of}
use Rattle.aud_merge.specs.ByTurns.{first_reaching}
use Rattle.aud_session_facts.specs.declared.reach.Reach.{Reach}

-- at the first of the turn's records after which the cursor reaches the position; the turn has this number
abbrev pub reach_in : Cluster → ℕ → Turn → ℕ → Option Reach
reach_in c k t p =
    option_map (λ number. record { turn = k; node = t.node; number = number })
    (first_reaching c.stream (node_log c t.node) p t.from (t.to - t.from))

-- in the first of the turns, which count on from this number, at whose end the node had taken the position
abbrev pub reach_from : Cluster → ℕ → List Turn → ℕ → Option Reach
reach_from c k [] p = None
reach_from c k (t ∷ later) p = if nat_le p (slice_of c t).high then reach_in c k t p else reach_from c (suc k) later p
