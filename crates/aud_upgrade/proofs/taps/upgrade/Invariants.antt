use Rattle.std.proofs.Common.{◌≡◌, map, take}
use Rattle.aud_upgrade.specs.Upgraded.{upgraded_tap}
use Rattle.aud_upgrade.proofs.taps.upgrade.Given as goal

abbrev pub invariant-loop-place : goal.invariant-loop-place
invariant-loop-place l = l.taps.items ≡ map (upgraded_tap l.joins l.logs.stream) (take l.place l.logs.taps)
