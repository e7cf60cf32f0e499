use Rattle.std.proofs.lemmas.Result.{err_from_is_err_and}
use Rattle.aud_tap.specs.declared.records.Rec.TheVariants as rec
use Rattle.aud_writer.proofs.BundleSoFar.{puts-more, puts-refused}
use Rattle.aud_writer.proofs.bundle.Lines.put_client_records.Goals as goal

pub loop-rec-preserved : goal.loop-rec-preserved
loop-rec-preserved c =
    puts-more c.args.name.now rec.Client c.args.records.now _ _ _ _ _ c.loop-rec-test.true c.rec-item.is c.loop-rec.invariant c.in_ok-put_client_record.ensures

pub returns-in_err-put_client_record : goal.returns-in_err-put_client_record
returns-in_err-put_client_record c =
    let refused = err_from_is_err_and c.from_residual.result c.from_residual.ensures.1 in
    puts-refused c.args.name.now rec.Client c.args.records.now _ _ _ _ _ c.put_client_record.new.self _ _ _ c.loop-rec-test.true c.rec-item.is c.loop-rec.invariant refused.1 refused.2 c.in_err-put_client_record.ensures
