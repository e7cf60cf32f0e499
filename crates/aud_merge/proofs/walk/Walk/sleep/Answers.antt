use Rattle.std.specs.Ordering.{nat_cmp}
use Rattle.std.specs.BTreeSet.{contains}
use Rattle.aud_merge.specs.Private.Waiting.{waiters}
use Rattle.aud_merge.proofs.Sleeping.{asleep-more}
use Rattle.aud_merge.proofs.walk.Walk.sleep.Goals as goal

pub returns-clause-asleep : goal.returns-clause-asleep
returns-clause-asleep c =
    asleep-more c.args.logs.now c.args.self.now.state c.args.step c.requires.next c.requires.blocked
    (waiters c.args.self.now.waiting) (waiters c.wait.new.self) c.in_ok-wait.ensures.waits c.in_ok-wait.ensures.more
    (contains nat_cmp c.args.self.now.awake) (contains nat_cmp c.remove.new.self)
    c.requires.asleep (c.remove.ensures.updates.0)
