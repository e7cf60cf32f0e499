use Rattle.std.proofs.Common.{arith}
use Rattle.std.proofs.lemmas.Grind.{common_steps}
use Rattle.aud_cert.specs.Text.{whole}
use Rattle.aud_explanation.proofs.JsonLists.{items-next}
use Rattle.aud_explanation.proofs.json_line.value.numbers.Goals as goal

pub loop-number-preserved : goal.loop-number-preserved
loop-number-preserved c =
    let next = items-next whole c.loop-number.values.items c.args.numbers.now c.loop-number.number-index c.from.result 0 c.loop-number-test.true c.from.ensures c.loop-number.invariant in
    grind (arith, common_steps)
