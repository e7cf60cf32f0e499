-- What is shown of the logs: a run of them, or the records that block.
use Rattle.std.specs.Prelude.{List}
use Rattle.aud_node.specs.Cluster.{Cluster}
use Rattle.aud_merge.specs.declared.step.Step.{Step}
use Rattle.aud_merge.specs.Machine.{start}
use Rattle.aud_merge.specs.Runs.{IsRun}
use Rattle.aud_merge.specs.Order.{IsGreedy, IsBlockedAt}
use Rattle.aud_merge.specs.declared.answer.Order.{Order}
use Rattle.aud_merge.specs.declared.answer.Order.TheVariants.{Run, Blocked}

-- a run, the one whose each step is the next record of the first log, in the order of the taps, whose next record is
-- allowed
pub record IsGreedyRun (c : Cluster) (steps : List Step) : Type 0 where
  pub is_run : IsRun c steps
  pub greedy : IsGreedy c (start c) steps

-- the logs have no run
abbrev pub HasNoRun : Cluster → Type 0
HasNoRun c = (steps : List Step) → IsRun c steps → ⊥

-- no run exists, and where that choice was made as often as it could be, these are the next records of the logs that
-- aren't finished, in the order of the taps, at least one; none of them is allowed there
pub record AreBlocking (c : Cluster) (fronts : List Step) : Type 0 where
  pub no_run : HasNoRun c
  pub blocked : IsBlockedAt c fronts

-- what an answer says of the cluster
abbrev pub IsShown : Cluster → Order → Type 0
IsShown c (Run steps) = IsGreedyRun c steps.items
IsShown c (Blocked fronts) = AreBlocking c fronts.items
