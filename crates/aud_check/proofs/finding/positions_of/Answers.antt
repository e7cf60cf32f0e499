use Rattle.std.proofs.Common.{◌++◌, ◌∷◌, [], ap, ◌∙◌}
use Rattle.aud_check.proofs.Cuts.{position_of}
use Rattle.aud_check.proofs.Steps.{mapped_more}
use Rattle.aud_check.proofs.finding.positions_of.Goals as goal

pub loop-frame-preserved : goal.loop-frame-preserved
loop-frame-preserved c =
    mapped_more (λ frame. frame.now) position_of c.args.frames.now c.loop-frame.frame-index c.frame-item.result c.loop-frame.positions.items c.push.new.self.items c.loop-frame-test.true c.frame-item.is c.loop-frame.invariant
    (c.in_ok-push.ensures.items ∙ ap (λ p. c.loop-frame.positions.items ++ p ∷ []) c.position_of.ensures)
