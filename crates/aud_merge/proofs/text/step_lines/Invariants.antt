use Rattle.std.proofs.Common.{◌≡◌, take, flat_map, string_bytes}
use Rattle.aud_merge.specs.Text.{step_line}
use Rattle.aud_merge.proofs.text.step_lines.Given as goal

-- the lines of the steps that were gone over
abbrev pub invariant-loop-step : goal.invariant-loop-step
invariant-loop-step l = string_bytes l.out ≡ flat_map (step_line l.beginning l.taps) (take l.step-index l.steps)
