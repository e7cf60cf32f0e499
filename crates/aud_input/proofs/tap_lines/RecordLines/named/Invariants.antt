use Rattle.std.proofs.Common.{◌≡◌, take}
use Rattle.aud_input.specs.LineRuns.{taps_named}
use Rattle.aud_input.proofs.tap_lines.RecordLines.named.Given as goal

-- the taps so far
abbrev pub invariant-loop-tap : goal.invariant-loop-tap
invariant-loop-tap l = l.taps.items ≡ taps_named l.runs (take l.tap-index l.tap-items)
