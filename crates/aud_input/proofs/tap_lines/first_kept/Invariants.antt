use Rattle.std.proofs.Common.{◌≡◌, drop}
use Rattle.aud_input.specs.TapLines.{first_kept}
use Rattle.aud_input.proofs.tap_lines.first_kept.Given as goal

-- those so far have other names
abbrev pub invariant-loop-tap : goal.invariant-loop-tap
invariant-loop-tap l = first_kept l.taps l.name ≡ first_kept (drop l.tap-index l.taps) l.name
