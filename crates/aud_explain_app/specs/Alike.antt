-- Sessions with the same fault at the same record: the first of them is explained, and its explanation names the others.
use Rattle.std.specs.Prelude.{ℕ, Bool, false, not, List, [], ◌∷◌, ◌++◌, codes, flat_map, length, map, nat_eq, Option, Some, None, option_to_list, slice_get, if◌then◌else◌}
use Rattle.std.specs.List.{filter, list_any}
use Rattle.std.specs.Option.{option_map, option_map_or}
use Rattle.aud_base.specs.Places.{numbers_from, places_where}
use Rattle.aud_tap.specs.declared.taps.Tap.{Tap}
use Rattle.aud_node.specs.Cluster.{Cluster, node_log}
use Rattle.aud_node.specs.Lists.{is_empty}
use Rattle.aud_node.specs.OwnPlaces.{own_places}
use Rattle.aud_node.specs.Stream.{Text}
use Rattle.aud_client.specs.Replies.{is_this, naming_places}
use Rattle.aud_cert.specs.declared.fault.Fault.{Fault}
use Rattle.aud_cert.specs.declared.fault.Fault.TheVariants.{Order, Frame, Orphan}
use Rattle.aud_cert.specs.FaultWord.{fault_word}
use Rattle.aud_findings.specs.ClientShown.{only_of}
use Rattle.aud_findings.specs.Order.{is_record_in_order}
use Rattle.aud_verdict.specs.declared.verdict.SessionVerdict.{SessionVerdict}
use Rattle.aud_verdict.specs.declared.verdict.Verdict.{Verdict}
use Rattle.aud_verdict.specs.declared.verdict.Verdict.TheVariants.{Yes, No}
use Rattle.aud_explain_app.specs.Asked.{has_refused}
use Rattle.aud_explain_app.specs.declared.alike.Told.{Told}

-- ---- the records at which a fault shows

-- a record of the node's log is out of order
abbrev pub is_unordered : Cluster → ℕ → Bool
is_unordered c node = list_any (λ number. not (is_record_in_order c.stream (node_log c node) number)) (numbers_from 0 (length (node_log c node)))

-- the taps whose first records of the fault show it for all sessions there: of a session's nodes, in the order of the
-- taps, those that are out of order; its client's tap, where a record of that is no packet, or nobody knows the session
-- of an event. Other faults are a session's own
abbrev pub taps_of : Cluster → Text → Fault → List ℕ
taps_of c pid Order = filter (is_unordered c) (own_places c pid)
taps_of c pid Frame = option_to_list (only_of (naming_places c.taps pid))
taps_of c pid Orphan = option_to_list (only_of (naming_places c.taps pid))
taps_of c pid fault = []

-- the name of a tap, behind a blank
abbrev pub tap_name : Option Tap → Text
tap_name tap = option_map_or (λ (t : Tap). codes " " ++ t.name) tap []

-- the records, named by the fault and the taps at these places, whose names have no blank: `ORDER a b`
abbrev pub records_of : Fault → List Tap → List ℕ → Option Text
records_of fault taps places = if is_empty places then None else Some (fault_word fault ++ flat_map (λ place. tap_name (slice_get taps place)) places)

-- those at which the fault of the session with this pid shows
abbrev pub fault_records : Cluster → Text → Fault → Option Text
fault_records c pid fault = records_of fault c.taps (taps_of c pid fault)

-- the same by the verdict: none where it is yes
abbrev pub verdict_records : Cluster → Text → Verdict → Option Text
verdict_records c pid (Yes got tail turns) = None
verdict_records c pid (No fault) = fault_records c pid fault

-- the records that the session may share with others; what one missed whose recovery was refused is its own
abbrev pub shared_records : Cluster → SessionVerdict → Option Text
shared_records c session = if has_refused c session.pid then None else verdict_records c session.pid session.verdict

-- ---- sessions that share them

-- the session has these
abbrev pub is_at : Cluster → Text → SessionVerdict → Bool
is_at c spot session = is_this spot (shared_records c session)

-- the numbers of the sessions that have them
abbrev pub numbers_at : Cluster → List SessionVerdict → Text → List ℕ
numbers_at c sessions spot = places_where (λ k. option_map_or (is_at c spot) (slice_get sessions k) false) (length sessions)

-- the pid of the session, if there is one
abbrev pub pid_of : Option SessionVerdict → List Text
pid_of session = option_to_list (option_map (λ (s : SessionVerdict). s.pid) session)

-- the pids of the sessions with these numbers
abbrev pub pids_at : List SessionVerdict → List ℕ → List Text
pids_at sessions numbers = flat_map (λ k. pid_of (slice_get sessions k)) numbers

-- ---- what is told

-- a session that is explained, and the pids of those that its explanation names
pub record Telling : Type 0 where
  pub session : SessionVerdict
  pub alike : List Text

abbrev pub telling_of : Told → Telling
telling_of told = record { session = told.session.now; alike = map (λ pid. pid.now) told.alike.items }

-- the session, which names nobody
abbrev pub alone : SessionVerdict → Telling
alone session = record { session = session; alike = [] }

-- of the sessions with these numbers, which share records, the first is told, and names the others
abbrev pub told_first : List SessionVerdict → ℕ → SessionVerdict → List ℕ → List Telling
told_first sessions number session [] = []
told_first sessions number session (first ∷ others) = if nat_eq first number then record { session = session; alike = pids_at sessions others } ∷ [] else []

-- what is told of the session with this number, with these records
abbrev pub told_by : Cluster → List SessionVerdict → ℕ → SessionVerdict → Option Text → List Telling
told_by c sessions number session None = alone session ∷ []
told_by c sessions number session (Some spot) = told_first sessions number session (numbers_at c sessions spot)

-- what is told of the session with this number
abbrev pub told_at : Cluster → List SessionVerdict → ℕ → List Telling
told_at c sessions number = option_map_or (λ session. told_by c sessions number session (shared_records c session)) (slice_get sessions number) []

-- those that share records are told once
abbrev pub told_once : Cluster → List SessionVerdict → List Telling
told_once c sessions = flat_map (told_at c sessions) (numbers_from 0 (length sessions))

-- what is told of the sessions that are shown: each that the words name by itself, where they name any
abbrev pub tellings : Cluster → List Text → List SessionVerdict → List Telling
tellings c pids sessions = if is_empty pids then told_once c sessions else map alone sessions
