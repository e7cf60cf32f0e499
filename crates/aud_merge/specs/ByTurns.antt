-- What the turns of a session tell of every run.
use Rattle.std.specs.Prelude.{◌≡◌, ◌-◌, ℕ, zero, suc, List, [], ◌∷◌, ◌++◌, map, Option, Some, None, if◌then◌else◌, nat_le, min, slice_get}
use Rattle.std.specs.Option.{option_map, unwrap_or}
use Rattle.aud_tap.specs.declared.records.StreamRec.{StreamRec}
use Rattle.aud_tap.specs.declared.records.NodeRec.{NodeRec}
use Rattle.aud_node.specs.Lists.{between}
use Rattle.aud_node.specs.Stream.{Text}
use Rattle.aud_node.specs.Cursors.{cursor_at}
use Rattle.aud_node.specs.Cluster.{Cluster, node_log}
use Rattle.aud_node.specs.TurnRecords.{pid_of}
use Rattle.aud_node.specs.OwnRecords.{is_pid}
use Rattle.aud_rooms.specs.Rooms.{Rooms, own_room}
use Rattle.aud_rooms.specs.Turns.{Who, Turn, slice_of}
use Rattle.aud_rooms.specs.TurnsDue.{rooms_for}
use Rattle.aud_merge.specs.Sessions.{SessionState, Here, session_after}
use Rattle.aud_merge.specs.declared.step.Step.{Step}
use Rattle.aud_merge.specs.Machine.{State, taken_of}

-- of so many records from this number on, the first after which the cursor is at least p
abbrev pub first_reaching : List StreamRec → List NodeRec → ℕ → ℕ → ℕ → Option ℕ
first_reaching stream log p number zero = None
first_reaching stream log p number (suc count) =
    if nat_le p (cursor_at stream log (suc number)) then Some number else first_reaching stream log p (suc number) count

-- of the first turn whose high reaches the position, the first record after which the cursor does: this is the
-- turn's first record, where low reaches it
abbrev pub reaching_step : Cluster → List Turn → ℕ → Option Step
reaching_step c [] p = None
reaching_step c (t ∷ later) p =
    if nat_le p (slice_of c t).high
    then option_map (λ number. record { log = t.node; index = number }) (first_reaching c.stream (node_log c t.node) p t.from (t.to - t.from))
    else reaching_step c later p

-- a moment of the run falls after this step of it; where there is no step, there is no moment
abbrev pub FallsAfter : List Step → Option ℕ → Option Step → Type 0
FallsAfter run moment None = moment ≡ None
FallsAfter run moment (Some step) = (t : ℕ) × (slice_get run t ≡ Some step) × (moment ≡ Some (suc t))

-- the rooms that the turns give a position: of the first turn whose high reaches it, those at the turn's start where
-- its low does, else those at the first of its records after which the cursor does. The first turn starts in the one
-- room named by the sid, a later one with the rooms at the end of the one before
abbrev pub rooms_of_turns : Cluster → Who → List Turn → ℕ → Option Rooms
rooms_of_turns c who turns p = rooms_for c.stream who.pid (own_room who.sid) (map (slice_of c) turns) p

-- the session is on a node, with the sid and the namespace of its `open` and these rooms; where there are no rooms,
-- there is no session
abbrev pub HasRooms : Who → Option SessionState → Option Rooms → Type 0
HasRooms who session None = session ≡ None
HasRooms who session (Some held) = (node turn : ℕ) × (session ≡ Some (Here node turn who.sid who.nsp held))

-- the second list begins with the first
abbrev pub IsPrefixOf : List ℕ → List ℕ → Type 0
IsPrefixOf xs ys = (rest : List ℕ) × (xs ++ rest ≡ ys)

-- what a record of the node makes of the session of this pid
abbrev pub session_past : ℕ → Text → SessionState → NodeRec → SessionState
session_past node pid session rec = if is_pid (pid_of rec) pid then unwrap_or (session_after node rec session) session else session

-- what the records of the node make of the session of this pid
abbrev pub after_records : ℕ → Text → SessionState → List NodeRec → SessionState
after_records node pid session [] = session
after_records node pid session (rec ∷ recs) = after_records node pid (session_past node pid session rec) recs

-- the session that the taken records of its turns give, from how far each log has come
abbrev pub by_turns : Cluster → Text → State → SessionState → List Turn → SessionState
by_turns c pid st before [] = before
by_turns c pid st before (t ∷ later) =
    if nat_le (taken_of st t.node) t.from
    then before
    else by_turns c pid st (after_records t.node pid before (between (node_log c t.node) t.from (min (taken_of st t.node) t.to))) later
