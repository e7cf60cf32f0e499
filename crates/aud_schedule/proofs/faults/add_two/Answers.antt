use Rattle.aud_schedule.proofs.Growing.{grown-two}
use Rattle.aud_schedule.proofs.faults.add_two.Goals as goal

pub returns : goal.returns
returns c = λ size is_within quiet.
    rw (c.in_ok-push-2.ensures.items, c.in_ok-push.ensures.items) (grown-two size c.args.fault c.args.act c.args.acts.now.items is_within quiet)
