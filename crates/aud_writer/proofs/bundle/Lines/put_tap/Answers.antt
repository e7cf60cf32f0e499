use Rattle.std.proofs.lemmas.Result.{err_from_is_err_and}
use Rattle.aud_writer.proofs.BundleSoFar.{tap-put, header-refused}
use Rattle.aud_writer.proofs.bundle.Lines.put_tap.Goals as goal

pub returns-in_err-put_header : goal.returns-in_err-put_header
returns-in_err-put_header c =
    let refused = err_from_is_err_and c.from_residual.result c.from_residual.ensures.1 in
    header-refused c.args.tap.now c.as_str-name.result.now c.kind_of.result c.as_str-name.ensures c.kind_of.ensures c.from_residual.result _ _ c.args.self.now c.put_header.new.self c.put_header.new.self refused.1 refused.2 c.in_err-put_header.ensures

pub returns : goal.returns
returns c =
    tap-put c.args.tap.now c.as_str-name.result.now c.kind_of.result c.as_str-name.ensures c.kind_of.ensures c.put_records.result c.args.self.now c.put_header.new.self c.put_records.new.self c.in_ok-put_header.ensures c.put_records.ensures
