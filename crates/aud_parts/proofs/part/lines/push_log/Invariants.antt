use Rattle.std.proofs.Common.{◌≡◌, ◌+◌, ◌++◌, ◌≤◌, drop, length, map, slice_index, suc}
use Rattle.aud_input.specs.LineRuns.{lines_of_runs}
use Rattle.aud_parts.specs.Private.FoundRecords.{found}
use Rattle.aud_parts.proofs.part.lines.push_log.Given as goal

-- the lines so far, and those that are still to be found
abbrev pub invariant-loop-place : goal.invariant-loop-place
invariant-loop-place l = record {
  lines : lines_of_runs l.runs ++ map (slice_index l.lines) (map suc (found l.place (drop l.place l.recs) (drop l.found l.part)))
      ≡ lines_of_runs l.initial.runs ++ map (slice_index l.lines) (map suc (found 0 l.recs l.part));
  count : length (lines_of_runs l.runs) ≡ length (lines_of_runs l.initial.runs) + l.found;
  within : l.found ≤ length l.part;
  few : l.found ≤ l.place;
}
