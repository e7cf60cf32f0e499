use Rattle.std.proofs.Common.{◌≡◌, map}
use Rattle.aud_reader.specs.SoFar.{tap_so_far}
use Rattle.aud_reader.proofs.bundle.open_taps.OpenTaps.close.Given as goal

abbrev pub invariant-loop-tap : goal.invariant-loop-tap
invariant-loop-tap l = l.taps.items ≡ map tap_so_far l.yielded
