use Rattle.std.proofs.Common.{Some, ap, sym, ◌∙◌}
use Rattle.std.specs.Ordering.{nat_cmp}
use Rattle.std.specs.BTreeSet.{contains}
use Rattle.aud_merge.specs.Private.Causes.{cause_seen}
use Rattle.aud_merge.specs.Private.Waiting.{waiters}
use Rattle.aud_merge.proofs.Sleeping.{asleep-told, asleep-untold}
use Rattle.aud_merge.proofs.walk.Walk.take.Goals as goal

pub returns-in_default-clause-asleep : goal.returns-in_default-clause-asleep
returns-in_default-clause-asleep c =
    asleep-untold c.args.logs.now c.args.self.now.state c.apply.new.state c.args.step c.in_ok-apply.ensures.taken
    (waiters c.args.self.now.waiting) (contains nat_cmp c.args.self.now.awake) c.requires.asleep c.in_default.ensures

pub returns-clause-asleep : goal.returns-clause-asleep
returns-clause-asleep c =
    asleep-told c.args.logs.now c.args.self.now.state c.wake.new.self.state c.args.step (c.in_ok-apply.ensures.taken ∙ ap Some (sym c.wake.ensures.state))
    (waiters c.args.self.now.waiting) (contains nat_cmp c.args.self.now.awake) c.requires.asleep
    (cause_seen c.in-Some.cause) c.in-Some.ensures (waiters c.wake.new.self.waiting) (contains nat_cmp c.wake.new.self.awake)
    c.in_ok-wake.ensures.awake c.wake.ensures.waiting
