use Rattle.std.proofs.Common.{take}
use Rattle.aud_writer.specs.WrittenBundle.{recs_of_taps}
use Rattle.aud_writer.specs.Private.SoFar.{AreWritten}
use Rattle.aud_writer.proofs.bundle.all_lines.Given as goal

abbrev pub invariant-loop-tap : goal.invariant-loop-tap
invariant-loop-tap l = AreWritten l.lines (recs_of_taps (take l.tap-index l.taps))
