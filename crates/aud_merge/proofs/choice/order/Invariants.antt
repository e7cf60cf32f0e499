use Rattle.aud_merge.specs.Private.Asleep.{AreAsleep}
use Rattle.aud_merge.specs.Private.Left.{left}
use Rattle.aud_merge.specs.Private.Walked.{HasWalked}
use Rattle.aud_merge.proofs.choice.order.Given as goal

-- the steps so far were chosen
abbrev pub invariant-loop-steps : goal.invariant-loop-steps
invariant-loop-steps l = record { walked : HasWalked l.logs l.steps.items l.walk.state; asleep : AreAsleep l.logs l.walk }

-- how many records are left
abbrev pub decreases-loop-steps : goal.decreases-loop-steps
decreases-loop-steps l = left l.logs l.walk.state
