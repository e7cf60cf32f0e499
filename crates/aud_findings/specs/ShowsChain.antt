-- When rows show that a session's records are no chain of turns.
use Rattle.std.specs.Prelude.{◌≡◌, List}
use Rattle.aud_node.specs.Cluster.{Cluster}
use Rattle.aud_node.specs.Stream.{Text}
use Rattle.aud_session_facts.specs.declared.misfit.Misfit.{Misfit}
use Rattle.aud_session_facts.specs.Marks.{turn_marks}
use Rattle.aud_session_facts.specs.Misfit.{IsMisfit}
use Rattle.aud_input.specs.TapLines.{TapLines}
use Rattle.aud_rows.specs.Seen.{RowSeen}
use Rattle.aud_session_facts.specs.NodeRows.{node_rows}
use Rattle.aud_findings.specs.ChainRecords.{chain_records}

-- in the records of the session with this pid this does not fit, and these are the rows of all node records that begin
-- or end a turn of it, and of that one
pub record ShowsChain (c : Cluster) (lines : List TapLines) (pid : Text) (rows : List RowSeen) : Type 0 where
  pub misfit : Misfit
  pub is_misfit : IsMisfit c pid misfit
  pub are_its_rows : rows ≡ node_rows c lines (chain_records misfit (turn_marks c pid))
