use Rattle.std.proofs.Common.{◌≡◌, drop}
use Rattle.aud_reader.specs.Bundle.{taps_of, taps_to_come}
use Rattle.aud_reader.proofs.bundle.read_bundle.Given as goal

abbrev pub invariant-loop-line : goal.invariant-loop-line
invariant-loop-line l = taps_to_come l.reader (drop l.line-index l.line-items) ≡ taps_of l.lines
