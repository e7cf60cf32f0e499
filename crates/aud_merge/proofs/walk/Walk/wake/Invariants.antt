use Rattle.std.proofs.Common.{◌≡◌, ◌||◌, ℕ, nat_eq, take}
use Rattle.std.specs.List.{list_any}
use Rattle.std.specs.Ordering.{nat_cmp}
use Rattle.std.specs.BTreeSet.{contains}
use Rattle.aud_merge.proofs.walk.Walk.wake.Given as goal

-- of the logs that waited, those that were gone over are to be looked at
abbrev pub invariant-loop-place : goal.invariant-loop-place
invariant-loop-place l =
    record {
      state : l.self.state ≡ l.initial.self.state;
      waiting : l.self.waiting ≡ l.initial.self.waiting;
      awake : (q : ℕ) → contains nat_cmp l.self.awake q ≡ (contains nat_cmp l.initial.self.awake q || list_any (nat_eq q) (take l.place-index l.place-items));
    }
