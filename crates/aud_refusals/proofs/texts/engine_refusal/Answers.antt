use Rattle.std.proofs.Common.{◌∙◌}
use Rattle.aud_refusals.proofs.Going.{engine-past}
use Rattle.aud_refusals.proofs.texts.engine_refusal.Goals as goal

pub loop-i-preserved : goal.loop-i-preserved
loop-i-preserved c =
    engine-past c.args.texts.now c.loop-i.i _ c.in_ok-found.field-0 c.loop-i-test.true c.in_ok-found.ensures c.in_default.not-Some ∙ c.loop-i.invariant
