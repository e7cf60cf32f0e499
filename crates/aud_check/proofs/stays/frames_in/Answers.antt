use Rattle.aud_check.proofs.Steps.{frames_more}
use Rattle.std.proofs.Common.{map}
use Rattle.aud_check.proofs.stays.frames_in.Goals as goal

pub loop-stay-preserved : goal.loop-stay-preserved
loop-stay-preserved c =
    frames_more (λ stay. stay.now) c.args.stays.now c.loop-stay.stay-index c.stay-item.result (map (λ frame. frame.now) c.loop-stay.frames.items) (map (λ frame. frame.now) c.push_frames.new.frames.items) c.loop-stay-test.true c.stay-item.is c.loop-stay.invariant c.in_ok-push_frames.ensures
