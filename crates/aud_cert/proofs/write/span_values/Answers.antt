use Rattle.std.proofs.lemmas.Grind.{common_steps}
use Rattle.std.proofs.Common.{arith}
use Rattle.aud_cert.specs.Text.{span_data}
use Rattle.aud_cert.proofs.Lists.{items-more}
use Rattle.aud_cert.proofs.write.span_values.Goals as goal

pub loop-span-preserved : goal.loop-span-preserved
loop-span-preserved c =
    let longer = items-more span_data c.loop-span.values.items _ _ _ _ c.loop-span-test.true c.span-item.is c.in_ok-span_value.ensures c.loop-span.invariant in
    grind (arith, common_steps)
