use Rattle.std.proofs.lemmas.Result.{err_from_is_err_and}
use Rattle.aud_writer.proofs.BundleSoFar.{bundle-written, bundle-refused}
use Rattle.aud_writer.proofs.LinesBack.{lines-back}
use Rattle.aud_writer.proofs.TapsBack.{bytes-back}
use Rattle.aud_writer.proofs.bundle.write_bundle.Goals as goal

pub returns-in_err-lines-clause-refused : goal.returns-in_err-lines-clause-refused
returns-in_err-lines-clause-refused c =
    let refused = err_from_is_err_and c.from_residual.result c.from_residual.ensures.1 in
    bundle-refused c.from_residual.result _ _ c.args.taps.now c.as_slice.result.now refused.1 refused.2 c.as_slice.ensures c.in_err-lines.ensures.refused

pub returns-clause-written : goal.returns-clause-written
returns-clause-written c = bundle-written c.in_ok-lines.lines c.args.taps.now c.as_slice.result.now c.as_slice.ensures c.in_ok-lines.ensures.written

pub returns-clause-lines : goal.returns-clause-lines
returns-clause-lines c = λ names. lines-back c.in_ok-lines.lines c.args.taps.now c.as_slice.result.now c.as_slice.ensures c.in_ok-lines.ensures.written names

pub returns-clause-reads_back : goal.returns-clause-reads_back
returns-clause-reads_back c = rw c.as_slice.ensures at (c.in_ok-lines.ensures.written).back

pub returns-clause-read_back : goal.returns-clause-read_back
returns-clause-read_back c = λ can. bytes-back c.in_ok-lines.lines c.args.taps.now c.as_slice.result.now c.as_slice.ensures c.in_ok-lines.ensures.written can
