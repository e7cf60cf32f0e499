use Rattle.std.proofs.Common.{◌∙◌}
use Rattle.aud_reader.specs.Fields.{as_blob}
use Rattle.std.proofs.lemmas.Result.{err_from_is_err_and}
use Rattle.aud_reader.proofs.Lists.{each-some, each-none, need-ok}
use Rattle.aud_reader.proofs.read.fields.blobs.Goals as goal

pub loop-item-preserved : goal.loop-item-preserved
loop-item-preserved c =
    let is = need-ok _ _ _ c.in_ok-bytes.ensures in
    rw c.in_ok-push.ensures.items (each-some as_blob _ _ _ _ c.loop-item.blobs.items c.loop-item-test.true is ∙ c.loop-item.invariant)

pub returns-in_err-bytes : goal.returns-in_err-bytes
returns-in_err-bytes c =
    let refused = err_from_is_err_and c.from_residual-in_err-bytes.result c.from_residual-in_err-bytes.ensures.1 in
    rw (refused.1, refused.2) (each-none as_blob _ _ _ c.loop-item.blobs.items _ _ c.loop-item-test.true c.loop-item.invariant c.in_err-bytes.ensures)
