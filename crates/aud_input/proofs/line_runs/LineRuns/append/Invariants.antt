use Rattle.std.proofs.Common.{◌≡◌, ◌++◌, take}
use Rattle.aud_input.specs.LineRuns.{lines_of_runs}
use Rattle.aud_input.proofs.line_runs.LineRuns.append.Given as goal

-- the lines of the runs so far come after all others
abbrev pub invariant-loop-run : goal.invariant-loop-run
invariant-loop-run l = lines_of_runs l.self ≡ lines_of_runs l.fn.self ++ lines_of_runs (take l.run-index l.run-items)
