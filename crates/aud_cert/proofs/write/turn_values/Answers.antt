use Rattle.std.proofs.lemmas.Grind.{common_steps}
use Rattle.std.proofs.Common.{arith}
use Rattle.aud_cert.specs.Text.{turn_data}
use Rattle.aud_cert.proofs.Lists.{items-more}
use Rattle.aud_cert.proofs.write.turn_values.Goals as goal

pub loop-turn-preserved : goal.loop-turn-preserved
loop-turn-preserved c =
    let longer = items-more turn_data c.loop-turn.values.items _ _ _ _ c.loop-turn-test.true c.turn-item.is c.in_ok-turn_value.ensures c.loop-turn.invariant in
    grind (arith, common_steps)
