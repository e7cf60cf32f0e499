-- The rest of a run.
use Rattle.std.specs.Prelude.{◌≡◌, ◌≤◌, ℕ, List, [], ◌∷◌, Some}
use Rattle.aud_node.specs.Cluster.{Cluster}
use Rattle.aud_merge.specs.declared.step.Step.{Step}
use Rattle.aud_merge.specs.Machine.{State, after, taken_of}
use Rattle.aud_merge.specs.Runs.{record_count}

-- no log has a record that wasn't taken
abbrev pub IsFinished : Cluster → State → Type 0
IsFinished c st = (place : ℕ) → record_count c place ≤ taken_of st place

-- the steps are the rest of a run: from this state on each of them is allowed, and then no log has more
abbrev pub RunsOn : Cluster → State → List Step → Type 0
RunsOn c st [] = IsFinished c st
RunsOn c st (step ∷ steps) = (next : State) × (after c st step ≡ Some next) × RunsOn c next steps
