use Rattle.std.proofs.Common.{◌≡◌, map, take}
use Rattle.aud_input.specs.LineRuns.{capped, lines_of_runs}
use Rattle.aud_input.proofs.line_runs.LineRuns.lines.Given as goal

-- the lines of the runs so far
abbrev pub invariant-loop-run : goal.invariant-loop-run
invariant-loop-run l = l.lines.items ≡ map capped (lines_of_runs (take l.run-index l.run-items))
