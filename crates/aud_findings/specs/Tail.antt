-- The rows that show a session's tail: what was due to it past all that its client received.
use Rattle.std.specs.Prelude.{◌≡◌, ◌-◌, ℕ, List, [], length, Option, Some, None, slice_get}
use Rattle.std.specs.Option.{option_and_then}
use Rattle.aud_node.specs.Cluster.{Cluster}
use Rattle.aud_node.specs.Stream.{Text}
use Rattle.aud_rooms.specs.Turns.{Turn}
use Rattle.aud_check.specs.Window.{positions_received}
use Rattle.aud_input.specs.TapLines.{TapLines}
use Rattle.aud_session_facts.specs.declared.reach.Reach.{Reach}
use Rattle.aud_rows.specs.declared.row.Role.TheVariants.{Entry, Fault, Reached}
use Rattle.aud_rows.specs.Rows.{node_row, stream_row}
use Rattle.aud_rows.specs.Seen.{RowSeen}
use Rattle.aud_session_facts.specs.RowLists.{row_and}
use Rattle.aud_session_facts.specs.ShowsDifference.{AreNumbersOf}
use Rattle.aud_verdict.specs.Session.{SessionLogs, IsSession, own_stays, due_to}
use Rattle.aud_findings.specs.Also.{frame_row_at}
use Rattle.aud_findings.specs.Received.{tail_positions}
use Rattle.aud_findings.specs.RoomChanges.{reach_of}

-- the row of the record at which the session of these turns first reached the position
abbrev pub reached_row : Cluster → List TapLines → List Turn → ℕ → Option RowSeen
reached_row c lines turns p = option_and_then (λ (reach : Reach). node_row c lines reach.node reach.number Reached) (reach_of c turns p)

-- the rows of a tail that begins with this position: the last of the frames that came over the stays of the client's tap
-- at the place with these numbers, which are so many, the entry, and where the session of these turns first reached it
abbrev pub tail_rows : Cluster → List TapLines → List Turn → ℕ → List ℕ → ℕ → Option ℕ → List RowSeen
tail_rows c lines turns place numbers frames None = []
tail_rows c lines turns place numbers frames (Some p) =
    row_and (frame_row_at c lines place numbers (frames - 1) Fault) (row_and (stream_row c lines p Entry) (row_and (reached_row c lines turns p) []))

-- these are the rows of the tail of the session with this pid, by its client's stays; there are none where it has no tail
pub record ShowsTail (c : Cluster) (lines : List TapLines) (pid : Text) (rows : List RowSeen) : Type 0 where
  pub session : SessionLogs
  pub is_session : IsSession c pid session
  pub numbers : List ℕ
  pub are_its_stays : AreNumbersOf c pid session.client numbers
  pub are_its_rows : rows
      ≡ tail_rows c lines session.turns session.client numbers (length (positions_received (own_stays c session)))
      (slice_get (tail_positions (positions_received (own_stays c session)) (due_to c session)) 0)
