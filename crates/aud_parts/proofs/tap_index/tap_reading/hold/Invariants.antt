use Rattle.std.proofs.Common.{◌≡◌, List, ℕ, Some, take}
use Rattle.std.specs.List.{AllByRecursion}
use Rattle.aud_parts.specs.TapRuns.{IsReadable, runs_lines}
use Rattle.aud_parts.specs.Private.TapsRead.{HoldsLines}
use Rattle.aud_parts.proofs.tap_index.tap_reading.hold.Given as goal

-- the runs so far
abbrev pub invariant-loop-run : goal.invariant-loop-run
invariant-loop-run g l = record {
  source : g.S.RunSource.files l.source ≡ g.S.RunSource.files l.fn.source;
  held : (files : List (List ℕ)) → g.S.RunSource.files l.fn.source ≡ Some files → AllByRecursion (IsReadable files) l.runs
      → HoldsLines (runs_lines files (take l.run-index l.runs)) l.held.items;
}
