use Rattle.std.proofs.Common.{arith}
use Rattle.std.proofs.lemmas.Grind.{common_steps}
use Rattle.aud_cert.proofs.Lists.{items-more}
use Rattle.aud_explanation.proofs.json_line.value.values.Goals as goal

pub loop-one-preserved : goal.loop-one-preserved
loop-one-preserved g c =
    let next = items-more (g.T.Told.data_of c.args.files.now c.args.pid.now) c.loop-one.values.items c.args.list.now c.loop-one.one-index c.in_ok-value.field-0 c.one-item.result c.loop-one-test.true c.one-item.is c.in_ok-value.ensures c.loop-one.invariant in
    grind (arith, common_steps)
