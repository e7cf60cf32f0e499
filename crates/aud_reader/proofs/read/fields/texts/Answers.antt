use Rattle.std.proofs.Common.{◌∙◌}
use Rattle.serde_json.specs.Find.{as_str}
use Rattle.std.proofs.lemmas.Result.{err_from_is_err_and}
use Rattle.aud_reader.proofs.Lists.{each-some, each-none, need-ok}
use Rattle.aud_reader.proofs.read.fields.texts.Goals as goal

pub loop-item-preserved : goal.loop-item-preserved
loop-item-preserved c =
    let is = need-ok _ _ _ c.in_ok-text.ensures in
    rw c.in_ok-push.ensures.items (each-some as_str _ _ _ _ c.loop-item.texts.items c.loop-item-test.true is ∙ c.loop-item.invariant)

pub returns-in_err-text : goal.returns-in_err-text
returns-in_err-text c =
    let refused = err_from_is_err_and c.from_residual-in_err-text.result c.from_residual-in_err-text.ensures.1 in
    rw (refused.1, refused.2) (each-none as_str _ _ _ c.loop-item.texts.items _ _ c.loop-item-test.true c.loop-item.invariant c.in_err-text.ensures)
