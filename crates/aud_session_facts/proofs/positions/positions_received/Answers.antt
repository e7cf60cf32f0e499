use Rattle.aud_session_facts.proofs.FramePositions.{stays_more}
use Rattle.aud_session_facts.proofs.positions.positions_received.Goals as goal

pub loop-stay-preserved : goal.loop-stay-preserved
loop-stay-preserved c =
    stays_more (λ stay. stay.now) c.args.stays.now c.loop-stay.stay-index c.stay-item.result c.loop-stay.positions.items c.push_positions.new.positions.items c.loop-stay-test.true c.stay-item.is c.loop-stay.invariant c.in_ok-push_positions.ensures
