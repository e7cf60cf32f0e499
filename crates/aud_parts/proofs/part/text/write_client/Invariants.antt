use Rattle.std.proofs.Common.{◌≡◌, List, ℕ, Some}
use Rattle.std.specs.List.{AllByRecursion}
use Rattle.aud_base.specs.Watched.{inner_of}
use Rattle.aud_input.specs.LineRuns.{lines_of_runs}
use Rattle.aud_parts.specs.TapRuns.{IsReadable}
use Rattle.aud_parts.specs.Private.PartSteps.{IsClientWritten}
use Rattle.aud_parts.specs.Private.RunSteps.{runs_size}
use Rattle.aud_parts.proofs.part.text.write_client.Given as goal

-- the lines before those that are left were written
abbrev pub invariant-pieces : goal.invariant-pieces
invariant-pieces g l = record {
  source : g.S.RunSource.files l.source ≡ g.S.RunSource.files l.fn.source;
  written : (files : List (List ℕ)) → g.S.RunSource.files l.fn.source ≡ Some files → AllByRecursion (IsReadable files) l.tap.runs
      → (AllByRecursion (IsReadable files) l.left
      × IsClientWritten files l.tap (g.W.Write.contents (inner_of l.fn.output)) (g.W.Write.contents (inner_of l.output)) (lines_of_runs l.fn.runs) (lines_of_runs l.runs) l.left l.skipped);
}

-- there is less to read each time
abbrev pub decreases-pieces : goal.decreases-pieces
decreases-pieces g l = runs_size l.left
