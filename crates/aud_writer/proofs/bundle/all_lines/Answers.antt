use Rattle.std.proofs.lemmas.Result.{err_from_is_err_and}
use Rattle.aud_writer.specs.WrittenBundle.{recs_of_taps}
use Rattle.std.proofs.Common.{take}
use Rattle.aud_writer.proofs.BundleSoFar.{taps-written, taps-refused}
use Rattle.aud_writer.proofs.bundle.all_lines.Goals as goal

pub loop-tap-preserved : goal.loop-tap-preserved
loop-tap-preserved c =
    taps-written c.args.taps.now _ _ c.loop-tap-test.true c.tap-item.is _ (c.in_ok-put_tap.ensures (recs_of_taps (take c.loop-tap.tap-index c.args.taps.now)) c.loop-tap.invariant)

pub returns-in_err-put_tap-clause-refused : goal.returns-in_err-put_tap-clause-refused
returns-in_err-put_tap-clause-refused c =
    let refused = err_from_is_err_and c.from_residual.result c.from_residual.ensures.1 in
    taps-refused c.args.taps.now _ _ c.loop-tap-test.true c.tap-item.is c.from_residual.result _ _ refused.1 refused.2 (c.in_err-put_tap.ensures (recs_of_taps (take c.loop-tap.tap-index c.args.taps.now)) c.loop-tap.invariant)
