use Rattle.std.proofs.Common.{◌≡◌, List, ℕ, Some}
use Rattle.std.specs.List.{AllByRecursion}
use Rattle.aud_parts.specs.TapRuns.{IsReadable, runs_lines}
use Rattle.aud_parts.specs.Private.RunSteps.{runs_size}
use Rattle.aud_parts.specs.Private.TapsRead.{IsReading}
use Rattle.aud_parts.proofs.tap_index.tap_reading.read_tap.Given as goal

-- the lines that are left are still to come
abbrev pub invariant-pieces : goal.invariant-pieces
invariant-pieces g l = record {
  source : g.S.RunSource.files l.source ≡ g.S.RunSource.files l.fn.source;
  reading : (files : List (List ℕ)) → g.S.RunSource.files l.fn.source ≡ Some files → AllByRecursion (IsReadable files) l.tap.runs
      → (AllByRecursion (IsReadable files) l.left × IsReading (runs_lines files l.tap.runs) l.reading (runs_lines files l.left));
}

-- there is less to read each time
abbrev pub decreases-pieces : goal.decreases-pieces
decreases-pieces g l = runs_size l.left
