use Rattle.std.proofs.Common.{◌≡◌, ◌-◌, ◌^◌, min, take}
use Rattle.aud_input.specs.LineRuns.{count_of}
use Rattle.aud_input.proofs.line_runs.LineRuns.count.Given as goal

-- the lines of the runs so far
abbrev pub invariant-loop-run : goal.invariant-loop-run
invariant-loop-run l = l.count ≡ min (count_of (take l.run-index l.run-items)) (2 ^ 64 - 1)
