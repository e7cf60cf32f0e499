-- Where a session first reached a position.
use Rattle.std.specs.Prelude.{ℕ, List, Option, nat_le}
use Rattle.aud_node.specs.Cluster.{Cluster}
use Rattle.aud_node.specs.Lists.{first_index}
use Rattle.aud_rooms.specs.Turns.{Turn, slice_of}
use Rattle.aud_merge.specs.declared.step.Step.{Step}
use Rattle.aud_session_facts.specs.declared.reach.Reach.{Reach}

-- the record at which the position was reached, as a step of the node
abbrev pub step_of : Reach → Step
step_of reach = record { log = reach.node; index = reach.number }

-- the first of the turns at whose end the node had taken the position; turns count from 0
abbrev pub first_turn_reaching : Cluster → List Turn → ℕ → Option ℕ
first_turn_reaching c turns p = first_index (λ (t : Turn). nat_le p (slice_of c t).high) turns
