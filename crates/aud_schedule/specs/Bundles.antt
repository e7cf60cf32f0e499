-- The bundle of a plan.
use Rattle.std.specs.Prelude.{◌≡◌, ℕ, List, length, map, Result, Ok, Err, option_to_list}
use Rattle.std.specs.List.{All}
use Rattle.std.specs.declared.vec.Vec.{Vec}
use Rattle.std.specs.declared.alloc.Global.{Global}
use Rattle.aud_sim.specs.declared.act.Act.{Act}
use Rattle.aud_sim.specs.declared.fault.SimFault.{SimFault}
use Rattle.aud_sim.specs.declared.fault.SimFault.TheVariants as fault
use Rattle.aud_sim.specs.Schedule.{simulated, Simulates}
use Rattle.aud_schedule.specs.declared.plan.Plan.{Plan}
use Rattle.aud_schedule.specs.Acts.{faults, kind_of, IsWithin}

-- acts for a plan: as many as it asks for, its fault once and no other, by its nodes and clients alone
pub record IsScheduleFor (plan : Plan) (acts : List Act) : Type 0 where
  pub as_many : length acts ≡ plan.acts
  pub its_fault : faults acts ≡ map kind_of (option_to_list plan.fault)
  pub within : All (IsWithin plan.nodes plan.clients) acts

-- what was answered is what a cluster of the plan's size gives for a schedule for it, unless memory ran out
abbrev pub IsSimulationOf : Plan → Result (Vec ℕ Global) SimFault → Type 0
IsSimulationOf plan (Ok bundle) = (acts : List Act) × IsScheduleFor plan acts × Simulates (Ok bundle) (simulated plan.nodes plan.clients acts)
IsSimulationOf plan (Err (fault.Act number)) = (acts : List Act) × IsScheduleFor plan acts × Simulates (Err (fault.Act number)) (simulated plan.nodes plan.clients acts)
IsSimulationOf plan (Err fault.Memory) = Unit {0}
