use Rattle.aud_merge.specs.Private.Causes.{awaited, cause_seen}
use Rattle.aud_merge.specs.Private.Waiting.{waiters}
use Rattle.aud_merge.proofs.Sleeping.{waits-now, waits-more}
use Rattle.aud_merge.proofs.waiting.Waiting.wait.Goals as goal

pub returns-clause-waits : goal.returns-clause-waits
returns-clause-waits c =
    waits-now (waiters c.args.self.now) (waiters c.add.new.self) (cause_seen c.in-Some.cause) c.args.step.log
    c.in_ok-add.ensures.added c.in_ok-add.ensures.others (awaited c.args.logs.now c.args.step) c.in-Some.ensures

pub returns-clause-more : goal.returns-clause-more
returns-clause-more c =
    waits-more (waiters c.args.self.now) (waiters c.add.new.self) (cause_seen c.in-Some.cause) c.args.step.log
    c.in_ok-add.ensures.added c.in_ok-add.ensures.others
