-- When rows show that an event of a session came with another content than its entry's.
use Rattle.std.specs.Prelude.{◌≡◌, ℕ, List}
use Rattle.aud_node.specs.Cluster.{Cluster}
use Rattle.aud_node.specs.Stream.{Text}
use Rattle.aud_check.specs.Frames.{frames_in}
use Rattle.aud_check.specs.declared.content.Altered.{Altered}
use Rattle.aud_check.specs.Content.{IsAltered}
use Rattle.aud_input.specs.TapLines.{TapLines}
use Rattle.aud_rows.specs.Seen.{RowSeen}
use Rattle.aud_verdict.specs.Session.{SessionLogs, IsSession, own_stays}
use Rattle.aud_session_facts.specs.ContentRows.{altered_rows}
use Rattle.aud_session_facts.specs.ShowsDifference.{AreNumbersOf}

-- of all that the client received of the session with this pid there is a first frame that isn't its entry, and these
-- are its rows, over the session's turns and its client's stays
pub record ShowsAltered (c : Cluster) (lines : List TapLines) (pid : Text) (rows : List RowSeen) : Type 0 where
  pub session : SessionLogs
  pub is_session : IsSession c pid session
  pub altered : Altered
  pub is_altered : IsAltered c.stream (frames_in (own_stays c session)) altered
  pub numbers : List ℕ
  pub are_its_stays : AreNumbersOf c pid session.client numbers
  pub are_its_rows : rows ≡ altered_rows (record { c = c; lines = lines; turns = session.turns; client = session.client; numbers = numbers }) altered
