-- Rows of the records of a session.
use Rattle.std.specs.Prelude.{ℕ, List, Option, map, slice_get}
use Rattle.std.specs.Option.{option_and_then}
use Rattle.aud_node.specs.Cluster.{Cluster}
use Rattle.aud_rooms.specs.Turns.{Turn}
use Rattle.aud_cert.specs.Certificate.{turn_at}
use Rattle.aud_merge.specs.declared.step.Step.{Step}
use Rattle.aud_merge.specs.ByTurns.{reaching_step}
use Rattle.aud_input.specs.TapLines.{TapLines}
use Rattle.aud_rows.specs.declared.row.Role.{Role}
use Rattle.aud_rows.specs.declared.row.Role.TheVariants.{Ask, Entry, Reached}
use Rattle.aud_rows.specs.Seen.{RowSeen}
use Rattle.aud_rows.specs.Rows.{node_row, stream_row}
use Rattle.aud_rows.specs.StayRows.{ask_row, frame_row, reply_row, stays_at}
use Rattle.aud_session_facts.specs.declared.shown.frame_place.FramePlace.{FramePlace}
use Rattle.aud_session_facts.specs.declared.shown.session.ShownSession.{ShownSession}
use Rattle.aud_session_facts.specs.FramePlaces.{frame_at}

-- a session of a cluster, the lines of its records, its turns in the nodes' logs, the place of its client's tap, and
-- the numbers of the stays there whose reply names it
pub record Session : Type 0 where
  pub c : Cluster
  pub lines : List TapLines
  pub turns : List Turn
  pub client : ℕ
  pub numbers : List ℕ

abbrev pub session_of : ShownSession → Session
session_of s = record { c = s.sheet.recording.now; lines = s.sheet.lines.now; turns = map (turn_at s.sheet.recording.now) s.turns.now; client = s.tap.now.place; numbers = s.numbers.now }

-- where the frame with this number stands, over all that was received of the session
abbrev pub frame_of : Session → ℕ → Option FramePlace
frame_of s frame = frame_at (stays_at s.c s.client) s.numbers frame

-- the row of the frame
abbrev pub got_row : Session → ℕ → Role → Option RowSeen
got_row s frame role = option_and_then (λ (at : FramePlace). frame_row s.c s.lines s.client at.stay at.frame role) (frame_of s frame)

-- the row of what was asked in the stay that the frame stands in
abbrev pub asked_row : Session → ℕ → Option RowSeen
asked_row s frame = option_and_then (λ (at : FramePlace). ask_row s.c s.lines s.client at.stay Ask) (frame_of s frame)

-- the row of the record at which the session first reached the position
abbrev pub reached_row : Session → ℕ → Option RowSeen
reached_row s position = option_and_then (λ (step : Step). node_row s.c s.lines step.log step.index Reached) (reaching_step s.c s.turns position)

-- the row of the entry at the position
abbrev pub entry_row : Session → ℕ → Option RowSeen
entry_row s position = stream_row s.c s.lines position Entry

-- the row of what was asked in the session's stay with this number, from 0 among those whose reply names it
abbrev pub ask_of_stay : Session → ℕ → Role → Option RowSeen
ask_of_stay s stay role = option_and_then (λ number. ask_row s.c s.lines s.client number role) (slice_get s.numbers stay)

-- the row of that stay's reply
abbrev pub reply_of_stay : Session → ℕ → Role → Option RowSeen
reply_of_stay s stay role = option_and_then (λ number. reply_row s.c s.lines s.client number role) (slice_get s.numbers stay)
