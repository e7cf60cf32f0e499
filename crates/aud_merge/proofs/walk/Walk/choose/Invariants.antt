use Rattle.std.proofs.Common.{◌≡◌}
use Rattle.std.specs.BTreeSet.{btree_set_len}
use Rattle.aud_merge.specs.Private.Asleep.{AreAsleep}
use Rattle.aud_merge.proofs.walk.Walk.choose.Given as goal

-- nothing was taken
abbrev pub invariant-loop-log : goal.invariant-loop-log
invariant-loop-log l = record { state : l.self.state ≡ l.initial.self.state; asleep : AreAsleep l.logs l.self }

-- how many logs are to be looked at
abbrev pub decreases-loop-log : goal.decreases-loop-log
decreases-loop-log l = btree_set_len l.self.awake
