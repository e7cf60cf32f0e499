-- What is due to a session, in one run.
use Rattle.std.specs.Prelude.{ℕ, Bool, false, List, [], ◌∷◌, length, Option, Some, None, nat_lt, nat_le, ◌&&◌, slice_get}
use Rattle.std.specs.List.{filter}
use Rattle.std.specs.Option.{option_map, option_and_then, unwrap_or}
use Rattle.aud_tap.specs.declared.records.StreamRec.{StreamRec}
use Rattle.aud_node.specs.Lists.{first_index}
use Rattle.aud_node.specs.Stream.{Text, entry, positions_after}
use Rattle.aud_node.specs.Cluster.{Cluster}
use Rattle.aud_rooms.specs.Rooms.{is_for}
use Rattle.aud_merge.specs.Sessions.{SessionState, Absent, Here, Away, Ended}
use Rattle.aud_merge.specs.declared.step.Step.{Step}
use Rattle.aud_merge.specs.declared.progress.Progress.{Progress}
use Rattle.aud_merge.specs.Machine.{State, start, after, session_of}

-- the states that the steps pass, from the one given on
abbrev pub states_from : Cluster → State → List Step → List State
states_from c st [] = st ∷ []
states_from c st (step ∷ steps) = st ∷ states_from c (unwrap_or (after c st step) st) steps

-- the states that a run passes: its element t is the state after t steps
abbrev pub states : Cluster → List Step → List State
states c run = states_from c (start c) run

-- the cursor of a log that has come so far; 0 where there is none
abbrev pub cursor_in : Option Progress → ℕ
cursor_in None = 0
cursor_in (Some progress) = progress.cursor

-- the cursor of the node
abbrev pub cursor_of : State → ℕ → ℕ
cursor_of st node = cursor_in (slice_get st.logs node)

-- the cursor of the node that the session is on
abbrev pub node_cursor : State → SessionState → Option ℕ
node_cursor st Absent = None
node_cursor st (Here node turn sid nsp rooms) = Some (cursor_of st node)
node_cursor st (Away turn sid nsp rooms) = None
node_cursor st Ended = None

-- there is a cursor, and it is at least p
abbrev pub is_at_least : Option ℕ → ℕ → Bool
is_at_least None p = false
is_at_least (Some cursor) p = nat_le p cursor

-- the session is on a node whose cursor is at least p
abbrev pub is_reached : Text → ℕ → State → Bool
is_reached pid p st = is_at_least (node_cursor st (session_of st pid)) p

-- the least t such that after t steps of the run the session is on a node whose cursor is at least p
abbrev pub reach : Cluster → List Step → Text → ℕ → Option ℕ
reach c run pid p = first_index (is_reached pid p) (states c run)

-- the session after the first t steps
abbrev pub session_at : Cluster → List Step → Text → ℕ → Option SessionState
session_at c run pid t = option_map (λ st. session_of st pid) (slice_get (states c run) t)

-- the session when it is first on a node whose cursor is at least p
abbrev pub session_at_reach : Cluster → List Step → Text → ℕ → Option SessionState
session_at_reach c run pid p = option_and_then (session_at c run pid) (reach c run pid p)

-- the cursor of the session's node after the step that opens it, with which it is on a node for the first time
abbrev pub birth : Cluster → List Step → Text → Option ℕ
birth c run pid =
    option_and_then
    (λ t. option_and_then (λ st. node_cursor st (session_of st pid)) (slice_get (states c run) t))
    (first_index (is_reached pid 0) (states c run))

-- there is a birth, and the position is past it
abbrev pub is_past_birth : Option ℕ → ℕ → Bool
is_past_birth None p = false
is_past_birth (Some birth) p = nat_lt birth p

-- the entry is recoverable and addressed to the namespace and the rooms of the session
abbrev pub is_for_session : Option StreamRec → Option SessionState → Bool
is_for_session at None = false
is_for_session at (Some Absent) = false
is_for_session at (Some (Here node turn sid nsp rooms)) = is_for at nsp rooms
is_for_session at (Some (Away turn sid nsp rooms)) = is_for at nsp rooms
is_for_session at (Some Ended) = false

-- past birth, reached, recoverable, and addressed to the namespace and rooms that the session has when it is reached
abbrev pub is_due : Cluster → List Step → Text → ℕ → Bool
is_due c run pid p =
    is_past_birth (birth c run pid) p
    && is_for_session (entry c.stream p) (session_at_reach c run pid p)

-- the positions that are due to the session, ascending
abbrev pub due : Cluster → List Step → Text → List ℕ
due c run pid = filter (is_due c run pid) (positions_after 0 (length c.stream))
