-- Which plans a schedule can be made for.
use Rattle.std.specs.Prelude.{ℕ, ◌≤◌, Option, Some, None}
use Rattle.aud_schedule.specs.declared.plan.Fault.{Fault}
use Rattle.aud_schedule.specs.declared.plan.Fault.TheVariants as fault
use Rattle.aud_schedule.specs.declared.plan.Plan.{Plan}

-- how many acts a schedule needs for its fault
abbrev pub least_acts : Option Fault → ℕ
least_acts None = 0
least_acts (Some fault) = 32

-- how many nodes a schedule needs for its fault: two where a node is to lag behind another
abbrev pub least_nodes : Option Fault → ℕ
least_nodes None = 1
least_nodes (Some fault.Lag) = 2
least_nodes (Some fault) = 1

-- a plan within the limits of a cluster, with room for its fault
pub record IsPossible (plan : Plan) : Type 0 where
  pub some_nodes : least_nodes plan.fault ≤ plan.nodes
  pub few_nodes : plan.nodes ≤ 64
  pub some_clients : 1 ≤ plan.clients
  pub few_clients : plan.clients ≤ 4096
  pub enough_acts : least_acts plan.fault ≤ plan.acts
  pub few_acts : plan.acts ≤ 1000000
