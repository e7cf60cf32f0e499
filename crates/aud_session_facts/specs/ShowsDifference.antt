-- When rows show where what a client received of a session first parts from what was due to it.
use Rattle.std.specs.Prelude.{◌≡◌, ℕ, List}
use Rattle.aud_node.specs.Cluster.{Cluster}
use Rattle.aud_node.specs.Stream.{Text}
use Rattle.aud_client.specs.Received.{numbers_naming}
use Rattle.aud_check.specs.declared.difference.Difference.{Difference}
use Rattle.aud_check.specs.Difference.{IsDifference}
use Rattle.aud_check.specs.Window.{positions_received}
use Rattle.aud_input.specs.TapLines.{TapLines}
use Rattle.aud_rows.specs.Seen.{RowSeen}
use Rattle.aud_rows.specs.StayRows.{stays_at}
use Rattle.aud_verdict.specs.Session.{SessionLogs, IsSession, own_stays, due_to}
use Rattle.aud_session_facts.specs.DifferenceRows.{difference_rows}

-- these are the numbers of the stays of the client's tap at this place whose reply names the session
abbrev pub AreNumbersOf : Cluster → Text → ℕ → List ℕ → Type 0
AreNumbersOf c pid client numbers = numbers ≡ numbers_naming pid (stays_at c client)

-- there is a difference between what the client received of the session with this pid and what was due to it, and these
-- are the rows of that difference, over the session's turns and its client's stays
pub record ShowsDifference (c : Cluster) (lines : List TapLines) (pid : Text) (rows : List RowSeen) : Type 0 where
  pub session : SessionLogs
  pub is_session : IsSession c pid session
  pub difference : Difference
  pub is_difference : IsDifference (positions_received (own_stays c session)) (due_to c session) difference
  pub numbers : List ℕ
  pub are_its_stays : AreNumbersOf c pid session.client numbers
  pub are_its_rows : rows ≡ difference_rows (record { c = c; lines = lines; turns = session.turns; client = session.client; numbers = numbers }) difference
