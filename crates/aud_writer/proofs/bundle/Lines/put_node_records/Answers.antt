use Rattle.std.proofs.Common.{◌<◌, length, arith}
use Rattle.std.proofs.lemmas.Result.{err_from_is_err_and}
use Rattle.aud_tap.specs.declared.records.Rec.TheVariants as rec
use Rattle.aud_writer.proofs.BundleSoFar.{puts-more, puts-refused}
use Rattle.aud_writer.proofs.bundle.Lines.put_node_records.Goals as goal

pub loop-number-preserved : goal.loop-number-preserved
loop-number-preserved c =
    let within : c.loop-number.number < length c.args.records.now = omega arith in
    puts-more c.args.name.now rec.Node c.args.records.now _ _ _ _ _ within c.index.ensures c.loop-number.invariant c.in_ok-put_node_record.ensures

pub returns-in_err-put_node_record : goal.returns-in_err-put_node_record
returns-in_err-put_node_record c =
    let refused = err_from_is_err_and c.from_residual.result c.from_residual.ensures.1 in
    let within : c.loop-number.number < length c.args.records.now = omega arith in
    puts-refused c.args.name.now rec.Node c.args.records.now _ _ _ _ _ c.put_node_record.new.self _ _ _ within c.index.ensures c.loop-number.invariant refused.1 refused.2 c.in_err-put_node_record.ensures
