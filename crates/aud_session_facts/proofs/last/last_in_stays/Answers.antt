use Rattle.std.proofs.Common.{arith}
use Rattle.aud_session_facts.proofs.Steps.{last-more}
use Rattle.aud_session_facts.proofs.last.last_in_stays.Goals as goal

pub loop-stay-preserved : goal.loop-stay-preserved
loop-stay-preserved c =
    grind (arith, c.or-last.ensures, c.last_in_stay.ensures, c.loop-stay.invariant, last-more (λ stay. stay.now) c.args.stays.now c.loop-stay.stay-index c.stay-item.result c.loop-stay-test.true c.stay-item.is)
