-- The logs whose next record isn't allowed.
use Rattle.std.specs.Prelude.{◌≡◌, ◌<◌, ℕ, List, length, false, true, Some, None, nat_eq}
use Rattle.std.specs.List.{list_any}
use Rattle.std.specs.Ordering.{nat_cmp}
use Rattle.std.specs.BTreeSet.{contains}
use Rattle.aud_node.specs.Cluster.{Cluster}
use Rattle.aud_merge.specs.Machine.{State, after}
use Rattle.aud_merge.specs.Runs.{front}
use Rattle.aud_merge.specs.declared.walk.Walk.{Walk}
use Rattle.aud_merge.specs.Private.Causes.{Cause, awaited}
use Rattle.aud_merge.specs.Private.Waiting.{waiters}

-- the log's next record isn't allowed, and the log waits for what can make it so
pub record IsAsleep (c : Cluster) (st : State) (waiting : Cause → List ℕ) (place : ℕ) : Type 0 where
  pub blocked : after c st (front st place) ≡ None
  pub waits : (cause : Cause) → awaited c (front st place) ≡ Some cause → list_any (nat_eq place) (waiting cause) ≡ true

-- each log that isn't to be looked at is asleep
abbrev pub AreAsleep : Cluster → Walk → Type 0
AreAsleep c walk = (place : ℕ) → place < length c.taps → contains nat_cmp walk.awake place ≡ false → IsAsleep c walk.state (waiters walk.waiting) place
