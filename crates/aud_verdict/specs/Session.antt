-- A session in the recording: its turns on the nodes, its one client's tap, and what that tap tells of it.
use Rattle.std.specs.Prelude.{◌≡◌, ℕ, List, [], ◌∷◌, map, not}
use Rattle.std.specs.List.{filter}
use Rattle.aud_tap.specs.declared.records.ClientRec.{ClientRec}
use Rattle.aud_node.specs.Stream.{Text}
use Rattle.aud_node.specs.Cluster.{Cluster}
use Rattle.aud_node.specs.NodeTaps.{client_at}
use Rattle.aud_client.specs.Replies.{naming_places}
use Rattle.aud_rooms.specs.Turns.{Who, Turn, slice_of, IsChain}
use Rattle.aud_rooms.specs.TurnsDue.{turns_due}
use Rattle.aud_client.specs.StaySeen.{StaySeen, FrameSeen}
use Rattle.aud_client.specs.Received.{TranscriptSeen, transcript_of, received_list, stays_naming}
use Rattle.aud_check.specs.Difference.{has_position}
use Rattle.aud_check.specs.Faults.{Case, positions_in}
use Rattle.aud_check.specs.Shown.{recs_or_none}

-- a session, its turns, and the place of its client's tap
pub record SessionLogs : Type 0 where
  pub who : Who
  pub turns : List Turn
  pub client : ℕ

-- the session of this pid: its records in all node logs are these turns, each once and nothing outside, and this is the
-- one client tap with a reply that names it
pub record IsSession (c : Cluster) (pid : Text) (s : SessionLogs) : Type 0 where
  pub names : s.who.pid ≡ pid
  pub chain : IsChain c s.who s.turns
  pub only : naming_places c.taps pid ≡ s.client ∷ []

-- the records of its client's tap
abbrev pub client_log : Cluster → SessionLogs → List ClientRec
client_log c s = recs_or_none (client_at c s.client)

-- what that tap tells
abbrev pub transcript : Cluster → SessionLogs → TranscriptSeen
transcript c s = transcript_of c.stream (client_log c s)

-- the tap's stays whose reply names the session
abbrev pub own_stays : Cluster → SessionLogs → List StaySeen
own_stays c s = stays_naming s.who.pid (transcript c s).stays

-- the events that the client received of the session, in the order of the tap
abbrev pub received_by : Cluster → SessionLogs → List FrameSeen
received_by c s = received_list c.stream (client_log c s) s.who.pid

-- the positions that were due to the session by its turns, ascending
abbrev pub due_to : Cluster → SessionLogs → List ℕ
due_to c s = turns_due c.stream s.who (map (slice_of c) s.turns)

-- what was received, against what was due
abbrev pub session_case : Cluster → SessionLogs → Case
session_case c s = record { stream = c.stream; transcript = transcript c s; stays = own_stays c s; frames = received_by c s; due = due_to c s }

-- the positions that were received
abbrev pub positions : Cluster → SessionLogs → List ℕ
positions c s = positions_in (session_case c s)

-- the positions that were due and were not received, ascending
abbrev pub missed : Cluster → SessionLogs → List ℕ
missed c s = filter (λ p. not (has_position (positions c s) p)) (due_to c s)
