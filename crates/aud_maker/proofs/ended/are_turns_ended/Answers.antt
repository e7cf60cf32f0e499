use Rattle.std.proofs.Common.{◌∙◌}
use Rattle.aud_maker.proofs.EndedLemmas.{ended-step}
use Rattle.aud_maker.proofs.ended.are_turns_ended.Goals as goal

pub loop-number-preserved : goal.loop-number-preserved
loop-number-preserved c =
    ended-step c.args.logs.now c.args.pid.now c.args.turns.now c.loop-number.number c.index-turns-number.result c.loop-number-test.true c.index-turns-number.is c.if-not-is_turn_ended.ensures
    ∙ c.loop-number.invariant
