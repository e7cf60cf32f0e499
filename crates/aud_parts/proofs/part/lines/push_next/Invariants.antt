use Rattle.std.proofs.Common.{◌≡◌, ◌+◌, ◌++◌, length, map, slice_index, suc}
use Rattle.aud_base.specs.Lists.{numbers_from}
use Rattle.aud_input.specs.LineRuns.{lines_of_runs}
use Rattle.aud_parts.proofs.part.lines.push_next.Given as goal

-- a line was added each time
abbrev pub invariant-loop-number : goal.invariant-loop-number
invariant-loop-number l = record {
  count : length (lines_of_runs l.runs) ≡ length (lines_of_runs l.initial.runs) + l.number;
  lines : lines_of_runs l.runs ≡ lines_of_runs l.initial.runs ++ map (slice_index l.lines) (map suc (numbers_from 0 l.number));
}
