-- When rows show that a recovery of a session was asked for where it does not fit what had come.
use Rattle.std.specs.Prelude.{◌≡◌, ℕ, List}
use Rattle.aud_node.specs.Cluster.{Cluster}
use Rattle.aud_node.specs.Stream.{Text}
use Rattle.aud_check.specs.declared.window.BadWindow.{BadWindow}
use Rattle.aud_check.specs.Window.{IsBadWindow}
use Rattle.aud_input.specs.TapLines.{TapLines}
use Rattle.aud_rows.specs.Seen.{RowSeen}
use Rattle.aud_verdict.specs.Session.{SessionLogs, IsSession, own_stays}
use Rattle.aud_session_facts.specs.WindowRows.{window_rows}
use Rattle.aud_session_facts.specs.ShowsDifference.{AreNumbersOf}

-- of the stays of the session with this pid there is a first one that was asked for where it doesn't fit, and these are
-- its rows, over the session's turns and its client's stays
pub record ShowsWindow (c : Cluster) (lines : List TapLines) (pid : Text) (rows : List RowSeen) : Type 0 where
  pub session : SessionLogs
  pub is_session : IsSession c pid session
  pub window : BadWindow
  pub is_window : IsBadWindow c.stream (own_stays c session) window
  pub numbers : List ℕ
  pub are_its_stays : AreNumbersOf c pid session.client numbers
  pub are_its_rows : rows ≡ window_rows (record { c = c; lines = lines; turns = session.turns; client = session.client; numbers = numbers }) window
