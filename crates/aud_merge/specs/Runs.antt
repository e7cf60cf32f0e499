-- Runs: mergings of the logs in which each step is allowed.
use Rattle.std.specs.Prelude.{◌≡◌, ◌<◌, ℕ, List, [], ◌∷◌, map, length, Option, Some, None, nat_eq}
use Rattle.std.specs.List.{filter}
use Rattle.std.specs.Option.{unwrap_or}
use Rattle.aud_tap.specs.declared.taps.Records.{Records}
use Rattle.aud_tap.specs.declared.taps.Records.TheVariants.{Stream, Node, Client}
use Rattle.aud_node.specs.Lists.{numbers_from}
use Rattle.aud_node.specs.Cluster.{Cluster, log_at}
use Rattle.aud_merge.specs.declared.step.Step.{Step}
use Rattle.aud_merge.specs.Machine.{State, start, after, taken_of}

-- how many steps the log has: one for each record of the stream's or of a node's tap
abbrev pub log_length : Option Records → ℕ
log_length None = 0
log_length (Some (Stream recs)) = length recs
log_length (Some (Node recs)) = length recs
log_length (Some (Client recs)) = 0

-- how many steps the log at this place has
abbrev pub record_count : Cluster → ℕ → ℕ
record_count c place = log_length (log_at c place)

-- the steps of each log, in their order, are that whole log
abbrev pub IsMerging : Cluster → List Step → Type 0
IsMerging c steps =
    (place : ℕ) → map (λ (s : Step). s.index) (filter (λ (s : Step). nat_eq s.log place) steps) ≡ numbers_from 0 (record_count c place)

-- every step is allowed in the state that the steps before it leave
abbrev pub AreAllowed : Cluster → State → List Step → Type 0
AreAllowed c st [] = Unit {0}
AreAllowed c st (step ∷ steps) = (next : State) × (after c st step ≡ Some next) × AreAllowed c next steps

-- a merging whose every step is allowed
pub record IsRun (c : Cluster) (steps : List Step) : Type 0 where
  pub merges : IsMerging c steps
  pub allowed : AreAllowed c (start c) steps

-- the state after the steps
abbrev pub state_after : Cluster → State → List Step → State
state_after c st [] = st
state_after c st (step ∷ steps) = state_after c (unwrap_or (after c st step) st) steps

-- the next record of the log at this place
abbrev pub front : State → ℕ → Step
front st place = record { log = place; index = taken_of st place }

-- the steps are allowed, one after the other, and then no log's next record is, though some log isn't finished
pub record IsBlocked (c : Cluster) (steps : List Step) : Type 0 where
  pub allowed : AreAllowed c (start c) steps
  pub unfinished : ℕ
  pub has_more : taken_of (state_after c (start c) steps) unfinished < record_count c unfinished
  pub blocked : (place : ℕ) → after c (state_after c (start c) steps) (front (state_after c (start c) steps) place) ≡ None
