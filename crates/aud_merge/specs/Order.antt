-- The order that takes each time the first log whose next record is allowed.
use Rattle.std.specs.Prelude.{◌≡◌, ◌≢◌, ℕ, zero, suc, List, [], ◌∷◌, length, Option, Some, None, if◌then◌else◌, nat_lt, is_some}
use Rattle.std.specs.Option.{unwrap_or}
use Rattle.aud_node.specs.Cluster.{Cluster}
use Rattle.aud_merge.specs.declared.step.Step.{Step}
use Rattle.aud_merge.specs.Machine.{State, start, after, taken_of}
use Rattle.aud_merge.specs.Runs.{record_count, state_after, front}

-- the next record of the first log, of so many from this place on, whose next record is allowed
abbrev pub first_allowed : Cluster → State → ℕ → ℕ → Option Step
first_allowed c st place zero = None
first_allowed c st place (suc count) =
    if is_some (after c st (front st place)) then Some (front st place) else first_allowed c st (suc place) count

-- each step is the first that is allowed
abbrev pub IsGreedy : Cluster → State → List Step → Type 0
IsGreedy c st [] = Unit {0}
IsGreedy c st (step ∷ steps) =
    (first_allowed c st 0 (length c.taps) ≡ Some step) × IsGreedy c (unwrap_or (after c st step) st) steps

-- the next record of each log that isn't finished, of so many logs from this place on
abbrev pub unfinished_fronts : Cluster → State → ℕ → ℕ → List Step
unfinished_fronts c st place zero = []
unfinished_fronts c st place (suc count) =
    if nat_lt (taken_of st place) (record_count c place)
    then front st place ∷ unfinished_fronts c st (suc place) count
    else unfinished_fronts c st (suc place) count

-- the choice was made as often as it could be, and these are the next records of the logs that are left, at least one
pub record IsBlockedAt (c : Cluster) (fronts : List Step) : Type 0 where
  pub steps : List Step
  pub greedy : IsGreedy c (start c) steps
  pub none_left : first_allowed c (state_after c (start c) steps) 0 (length c.taps) ≡ None
  pub are_fronts : fronts ≡ unfinished_fronts c (state_after c (start c) steps) 0 (length c.taps)
  pub some : fronts ≢ []
