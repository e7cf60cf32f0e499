-- Where the choice has come to.
use Rattle.std.specs.Prelude.{◌≡◌, List}
use Rattle.aud_node.specs.Cluster.{Cluster}
use Rattle.aud_merge.specs.declared.step.Step.{Step}
use Rattle.aud_merge.specs.Machine.{State, start}
use Rattle.aud_merge.specs.Runs.{state_after}
use Rattle.aud_merge.specs.Order.{IsGreedy}

-- each of these steps was chosen, and they lead to the state
pub record HasWalked (c : Cluster) (steps : List Step) (st : State) : Type 0 where
  pub greedy : IsGreedy c (start c) steps
  pub leads : st ≡ state_after c (start c) steps
