-- A plan: which part of a recording each session and each client's tap is in. Parts count from 0.
use Rattle.std.specs.Prelude.{◌≡◌, ◌<◌, ◌≤◌, count_by, ◌==◌, ◌&&◌, ℕ, Bool, true, false, not, List, [], ◌∷◌, ◌++◌, length, flat_map, Option, Some, None, nat_eq, slice_get, if◌then◌else◌}
use Rattle.std.specs.List.{All, list_all}
use Rattle.std.specs.Option.{option_and_then, option_eq, option_flatten}
use Rattle.std.specs.Str.{bytes_eq}
use Rattle.aud_tap.specs.declared.records.NodeRec.{NodeRec}
use Rattle.aud_tap.specs.declared.taps.Tap.{Tap}
use Rattle.aud_tap.specs.Names.{first_index}
use Rattle.aud_base.specs.OneForEach.{OneForEach}
use Rattle.aud_node.specs.Stream.{Text}
use Rattle.aud_node.specs.Cluster.{node_recs}
use Rattle.aud_node.specs.NamedPids.{node_pids}
use Rattle.aud_parts.specs.LeftOut.{keeps_record, is_started}
use Rattle.aud_parts.specs.declared.clients.measured.MeasuredClient.{MeasuredClient}
use Rattle.aud_parts.specs.declared.plan.Plan.{Plan}

-- ---- the sessions

-- the pids that the replies of a client's tap name
abbrev pub client_pids : MeasuredClient → List Text
client_pids client = client.facts.pids

-- all mentions of sessions: in the nodes' taps, and then in the clients' taps
abbrev pub all_mentions : List Tap → List MeasuredClient → List Text
all_mentions taps clients = flat_map node_pids taps ++ flat_map client_pids clients

-- the number of the session with this pid; sessions count from 0
abbrev pub number_of : List Text → Text → Option ℕ
number_of pids pid = first_index (λ own. bytes_eq own pid) pids

-- ---- their parts

-- there is a part, and it is this one
abbrev pub is_part : ℕ → Option ℕ → Bool
is_part part own = option_eq nat_eq own (Some part)

-- the part of the session; none where there is no such session
abbrev pub part_of : Plan → Text → Option ℕ
part_of plan pid = option_and_then (slice_get plan.parts.items) (number_of plan.sessions pid)

-- the session has the part
abbrev pub is_in : Plan → ℕ → Text → Bool
is_in plan part pid = is_part part (part_of plan pid)

-- of sessions with their parts, those that have this part
abbrev pub pids_with : ℕ → List Text → List ℕ → List Text
pids_with part (pid ∷ pids) (own ∷ parts) = if nat_eq own part then pid ∷ pids_with part pids parts else pids_with part pids parts
pids_with part _ _ = []

-- the sessions of the part, in the order of the report
abbrev pub pids_in : Plan → ℕ → List Text
pids_in plan part = pids_with part plan.sessions plan.parts.items

-- the client's tap with this number has the part; clients count from 0
abbrev pub has_client : Plan → ℕ → ℕ → Bool
has_client plan part number = is_part part (option_flatten (slice_get plan.clients.items number))

-- of clients with their parts, the positions of the events that came to those that have this part
abbrev pub came_with : ℕ → List MeasuredClient → List (Option ℕ) → List ℕ
came_with part (client ∷ told) (own ∷ owns) =
    if is_part part own then client.facts.came.items ++ came_with part told owns else came_with part told owns
came_with part _ _ = []

-- the positions of the events that came to the clients of the part, client after client
abbrev pub came_in : Plan → List MeasuredClient → ℕ → List ℕ
came_in plan told part = came_with part told plan.clients.items

-- ---- what stays together

-- a client's tap that names these sessions has the part of all of them; none where it names nobody
abbrev pub has_its_part : Plan → List Text → Option ℕ → Bool
has_its_part plan pids None = length pids == 0
has_its_part plan pids (Some part) = not (length pids == 0) && list_all (is_in plan part) pids

-- the client's tap has this part
abbrev pub IsClientIn : Plan → MeasuredClient → Option ℕ → Type 0
IsClientIn plan client part = has_its_part plan (client_pids client) part ≡ true

-- one part has all sessions that the log's records name, unless the log begins with a `start`
abbrev pub StaysWhole : Plan → List NodeRec → Type 0
StaysWhole plan log = is_started log ≡ false → (part : ℕ) × (list_all (keeps_record (is_in plan part)) log ≡ true)

-- each session has one of the parts; each client's tap has that of all its sessions; and no part has only some of the
-- sessions that a log names which doesn't begin with a `start`
pub record IsClosed (taps : List Tap) (told : List MeasuredClient) (plan : Plan) : Type 0 where
  pub each_session : length plan.parts.items ≡ length plan.sessions
  pub within : All (λ part. part < length plan.weights.items) plan.parts.items
  pub each_client : OneForEach (IsClientIn plan) told plan.clients.items
  pub each_log : All (λ (tap : Tap). StaysWhole plan (node_recs (Some tap.records))) taps

-- no part has more sessions, or more clients' taps, than a bundle may have
pub record HasRoom (plan : Plan) : Type 0 where
  pub sessions_fit : (part : ℕ) → part < length plan.weights.items → length (pids_in plan part) ≤ 65536
  pub clients_fit : (part : ℕ) → part < length plan.weights.items → count_by (is_part part) plan.clients.items ≤ 4096
