use Rattle.std.proofs.Common.{◌≡◌, ◌++◌, map}
use Rattle.aud_base.specs.Lists.{numbers_from}
use Rattle.aud_input.specs.LineRuns.{capped}
use Rattle.aud_input.proofs.line_runs.push_lines.Given as goal

-- the lines so far
abbrev pub invariant-loop-place : goal.invariant-loop-place
invariant-loop-place l = l.lines.items ≡ l.fn.lines.items ++ map capped (numbers_from l.run.first l.place)
