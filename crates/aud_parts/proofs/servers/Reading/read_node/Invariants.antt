use Rattle.std.proofs.Common.{◌≡◌, List, ℕ, Some}
use Rattle.std.specs.List.{AllByRecursion}
use Rattle.aud_tap.specs.declared.records.TapKind.TheVariants as kind
use Rattle.aud_parts.specs.TapRuns.{IsReadable, MayBeRead}
use Rattle.aud_parts.specs.Private.RunSteps.{runs_size}
use Rattle.aud_parts.specs.Private.ServerSteps.{IsHeaderOf, IsLogRead}
use Rattle.aud_parts.proofs.servers.Reading.read_node.Given as goal

-- the lines before those that are left were read
abbrev pub invariant-pieces : goal.invariant-pieces
invariant-pieces g l = record {
  source : g.S.RunSource.files l.source ≡ g.S.RunSource.files l.fn.source;
  read : (files : List (List ℕ)) → g.S.RunSource.files l.fn.source ≡ Some files → MayBeRead files l.tap → IsHeaderOf files l.tap l.header → l.header.of ≡ kind.Node
      → (AllByRecursion (IsReadable files) l.left × IsLogRead files l.tap l.left l.skipped l.log l.runs);
}

-- there is less to read each time
abbrev pub decreases-pieces : goal.decreases-pieces
decreases-pieces g l = runs_size l.left
