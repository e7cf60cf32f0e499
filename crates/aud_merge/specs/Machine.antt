-- The cluster as a machine: which step is allowed in a state, and what it does.
use Rattle.std.specs.Prelude.{ℕ, zero, suc, List, map, take, set, Option, Some, None, if◌then◌else◌, nat_eq, slice_get}
use Rattle.std.specs.Option.{option_map, option_and_then, unwrap_or}
use Rattle.std.specs.Ordering.{nat_cmp}
use Rattle.std.specs.Cmp.Lexicographic.{slice_cmp}
use Rattle.std.specs.FinMap as fin
use Rattle.aud_tap.specs.declared.records.StreamRec.{StreamRec}
use Rattle.aud_tap.specs.declared.records.NodeRec.{NodeRec}
use Rattle.aud_tap.specs.declared.records.NodeRec.TheVariants.{Start, Take, Takes}
use Rattle.aud_tap.specs.declared.taps.Records.{Records}
use Rattle.aud_tap.specs.declared.taps.Records.TheVariants.{Stream, Node, Client}
use Rattle.aud_node.specs.Stream.{Text, position}
use Rattle.aud_node.specs.Cursors.{position_if_past}
use Rattle.aud_node.specs.Cluster.{Cluster, stream_place, log_at}
use Rattle.aud_node.specs.TurnRecords.{pid_of}
use Rattle.aud_merge.specs.declared.step.Step.{Step}
use Rattle.aud_merge.specs.declared.progress.Progress.{Progress}
use Rattle.aud_merge.specs.Sessions.{SessionState, Absent, session_after}

-- how far each log has come, in the order of the taps, and the sessions by pid
pub record State : Type 0 where
  pub logs : List Progress
  pub sessions : fin.FinMap (slice_cmp nat_cmp) SessionState

-- nothing was taken
abbrev pub start : Cluster → State
start c = record { logs = map (λ _. record { taken = 0; cursor = 0 }) c.taps; sessions = fin.empty }

-- how many records were taken of a log that has come so far; 0 where there is none
abbrev pub taken_in : Option Progress → ℕ
taken_in None = 0
taken_in (Some progress) = progress.taken

-- how many records of the log at this place were taken
abbrev pub taken_of : State → ℕ → ℕ
taken_of st place = taken_in (slice_get st.logs place)

-- how many records of the log at this place, if there is one, were taken
abbrev pub taken_at : State → Option ℕ → ℕ
taken_at st None = 0
taken_at st (Some place) = taken_of st place

-- how many entries are appended: the records of the stream's tap that were taken
abbrev pub appended : Cluster → State → ℕ
appended c st = taken_at st (stream_place c.taps)

-- the session of this pid
abbrev pub session_of : State → Text → SessionState
session_of st pid = unwrap_or (fin.get st.sessions pid) Absent

-- the position, if it is the one after the cursor
abbrev pub position_if_next : Option ℕ → ℕ → Option ℕ
position_if_next None cursor = None
position_if_next (Some p) cursor = if nat_eq p (suc cursor) then Some p else None

-- the cursor that the node's record with this number leaves, where these entries are appended; none where the record
-- isn't allowed
abbrev pub allowed_cursor : List StreamRec → ℕ → NodeRec → ℕ → Option ℕ
allowed_cursor entries zero (Start None) cursor = Some 0
allowed_cursor entries zero (Start (Some off)) cursor = position entries off
allowed_cursor entries (suc number) (Start off) cursor = None
allowed_cursor entries number (Take off) cursor = position_if_next (position entries off) cursor
allowed_cursor entries number (Takes off) cursor = position_if_past (position entries off) cursor
allowed_cursor entries number _ cursor = Some cursor

-- the sessions that the node's record leaves, which names this pid, if any; none where it isn't allowed
abbrev pub sessions_after : ℕ → NodeRec → Option Text → fin.FinMap (slice_cmp nat_cmp) SessionState → Option (fin.FinMap (slice_cmp nat_cmp) SessionState)
sessions_after node rec None sessions = Some sessions
sessions_after node rec (Some pid) sessions =
    option_map (λ session. fin.insert sessions pid session) (session_after node rec (unwrap_or (fin.get sessions pid) Absent))

-- the state after a node's next record
abbrev pub after_record : Cluster → State → ℕ → Progress → NodeRec → Option State
after_record c st node done rec =
    option_and_then
    (λ cursor.
    option_map
    (λ sessions.
    record { logs = set st.logs node (record { taken = suc done.taken; cursor = cursor }); sessions = sessions })
    (sessions_after node rec (pid_of rec) st.sessions))
    (allowed_cursor (take (appended c st) c.stream) done.taken rec done.cursor)

-- the state after the stream's next entry, which is always allowed
abbrev pub after_entry : State → ℕ → Progress → StreamRec → Option State
after_entry st place done entry =
    Some (record { logs = set st.logs place (record { taken = suc done.taken; cursor = done.cursor }); sessions = st.sessions })

-- the state after the next record of the log, if it has one; a client's tap has no steps
abbrev pub after_next : Cluster → State → ℕ → Progress → Records → Option State
after_next c st place done (Stream recs) = option_and_then (after_entry st place done) (slice_get recs done.taken)
after_next c st place done (Node recs) = option_and_then (after_record c st place done) (slice_get recs done.taken)
after_next c st place done (Client recs) = None

-- the state after the step; none where it isn't allowed
abbrev pub after : Cluster → State → Step → Option State
after c st step =
    option_and_then
    (λ done. if nat_eq done.taken step.index then option_and_then (after_next c st step.log done) (log_at c step.log) else None)
    (slice_get st.logs step.log)
