use Rattle.std.proofs.Common.{◌≡◌, ◌≤◌, List, ℕ, Some, drop}
use Rattle.std.specs.List.{All}
use Rattle.aud_base.specs.Watched.{inner_of}
use Rattle.aud_input.specs.LineRuns.{lines_of_runs}
use Rattle.aud_parts.specs.PartLines.{client_number, parts_from, parts_of_taps}
use Rattle.aud_parts.specs.TapRuns.{MayBeRead}
use Rattle.aud_parts.specs.Private.PartSteps.{AreWritten}
use Rattle.aud_parts.proofs.part.text.Planned.write.Given as goal

-- what the part has of the taps so far was written
abbrev pub invariant-loop-place : goal.invariant-loop-place
invariant-loop-place g l = record {
  source : g.S.RunSource.files l.source ≡ g.S.RunSource.files l.fn.source;
  clients : l.client ≤ l.place;
  number : l.client ≡ client_number l.indexed.kinds.now l.place;
  written : (files : List (List ℕ)) → g.S.RunSource.files l.fn.source ≡ Some files → All (MayBeRead files) l.indexed.taps.now
      → AreWritten (parts_of_taps files l.servers l.self.plan.now l.part l.indexed.kinds.now l.indexed.taps.now)
      (parts_from files l.servers l.self.plan.now l.part l.indexed.kinds.now l.place (drop l.place l.indexed.taps.now))
      (g.W.Write.contents (inner_of l.fn.output)) (g.W.Write.contents (inner_of l.output)) (lines_of_runs l.runs);
}
