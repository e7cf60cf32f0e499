use Rattle.std.specs.Ordering.{nat_cmp}
use Rattle.std.specs.BTreeSet.{contains}
use Rattle.aud_merge.proofs.Sleeping.{awake-more}
use Rattle.aud_merge.proofs.walk.Walk.wake.Goals as goal

pub loop-place-preserved : goal.loop-place-preserved
loop-place-preserved c =
    record {
      state = c.loop-place.invariant.state;
      waiting = c.loop-place.invariant.waiting;
      awake = λ q.
          awake-more q c.deref-place-items.result.now c.loop-place.place-index (contains nat_cmp c.args.self.now.awake q) (contains nat_cmp c.loop-place.self.awake q) (contains nat_cmp c.insert.new.self q)
          c.loop-place-test.true (c.loop-place.invariant.awake q) (c.in_ok-insert.ensures.updates.0 q);
    }
