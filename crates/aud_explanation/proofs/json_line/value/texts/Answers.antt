use Rattle.std.proofs.Common.{arith}
use Rattle.std.proofs.lemmas.Grind.{common_steps}
use Rattle.aud_explanation.specs.JsonValue.{text_data}
use Rattle.aud_explanation.proofs.JsonLists.{items-next}
use Rattle.aud_explanation.proofs.json_line.value.texts.Goals as goal

pub loop-text-preserved : goal.loop-text-preserved
loop-text-preserved c =
    let next = items-next text_data c.loop-text.values.items _ _ c.in_ok-try_from_str.field-0 _ c.loop-text-test.true c.in_ok-try_from_str.ensures c.loop-text.invariant in
    grind (arith, common_steps)
