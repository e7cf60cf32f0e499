use Rattle.aud_schedule.proofs.Growing.{grown-one}
use Rattle.aud_schedule.proofs.faults.add.Goals as goal

pub returns-clause-grown : goal.returns-clause-grown
returns-clause-grown c = λ size settled is_within. rw c.in_ok-push.ensures.items (grown-one size c.args.act c.args.acts.now.items settled is_within)
