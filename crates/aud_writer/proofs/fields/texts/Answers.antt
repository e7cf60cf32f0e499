use Rattle.std.proofs.Common.{arith, ap, ◌∙◌}
use Rattle.std.proofs.lemmas.Grind.{common_steps}
use Rattle.serde_json.specs.Data.{string}
use Rattle.aud_writer.proofs.Lists.{texts-more}
use Rattle.aud_writer.proofs.fields.texts.Goals as goal

pub loop-text-preserved : goal.loop-text-preserved
loop-text-preserved c =
    let same = c.in_ok-try_from_str.ensures ∙ ap string c.as_str.ensures in
    let longer = texts-more c.loop-text.list.items _ _ _ _ c.loop-text-test.true c.text-item.is same c.loop-text.invariant in
    grind (arith, common_steps)
