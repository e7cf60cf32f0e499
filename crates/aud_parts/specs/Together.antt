-- What a closed plan keeps together of the recording that was planned.
use Rattle.std.specs.Prelude.{◌≡◌, ◌<◌, ℕ, true, List, length, Some, is_none}
use Rattle.std.specs.List.{filter, filter_map}
use Rattle.aud_tap.specs.declared.records.StreamRec.{StreamRec}
use Rattle.aud_tap.specs.declared.records.ClientRec.{ClientRec}
use Rattle.aud_tap.specs.declared.taps.Tap.{Tap}
use Rattle.aud_base.specs.FirstTexts.{first_texts}
use Rattle.aud_base.specs.OneForEach.{OneForEach}
use Rattle.aud_node.specs.Stream.{Text, position}
use Rattle.aud_node.specs.AtPosition.{is_recoverable_at}
use Rattle.aud_node.specs.Cluster.{cluster_of, stream_of}
use Rattle.aud_node.specs.NodeTaps.{client_recs}
use Rattle.aud_maker.specs.Sessions.{reply_pids, sessions_of}
use Rattle.aud_parts.specs.Part.{is_among, left_for, came_to_some, KeepsClients, KeepsFirsts}
use Rattle.aud_parts.specs.ClientFacts.{is_one_of, TellEvents}
use Rattle.aud_parts.specs.Plan.{client_pids, all_mentions, pids_in, came_in, IsClosed}
use Rattle.aud_parts.specs.declared.clients.measured.MeasuredClient.{MeasuredClient}
use Rattle.aud_parts.specs.declared.plan.Plan.{Plan}

-- the taps of the stream and of the nodes
abbrev pub without_clients : List Tap → List Tap
without_clients taps = filter (λ tap. is_none (client_recs tap)) taps

-- what is told of a client's tap with these records: its sessions, and which events came
pub record IsToldBy (stream : List StreamRec) (recs : List ClientRec) (client : MeasuredClient) : Type 0 where
  pub pids_are : client_pids client ≡ reply_pids stream (Some recs)
  pub events_are : TellEvents stream recs client.facts.came.items

-- so of each client's tap, tap after tap
abbrev pub AreToldBy : List Tap → List MeasuredClient → Type 0
AreToldBy taps told = OneForEach (IsToldBy (stream_of taps)) (filter_map client_recs taps) told

-- the plan was made of these taps, of whose clients this is told, and is closed
pub record IsPlanOf (taps : List Tap) (told : List MeasuredClient) (plan : Plan) : Type 0 where
  pub are_told : AreToldBy taps told
  pub by_mentions : plan.sessions ≡ first_texts (all_mentions (without_clients taps) told)
  pub closed : IsClosed (without_clients taps) told plan

-- of each recoverable entry that is found by its offset, the position is one of these where an event that ends in the
-- offset came to a client of the taps
abbrev pub TellAll : List StreamRec → List Tap → List ℕ → Type 0
TellAll stream taps came =
    (place : ℕ) (off : Text) → position stream off ≡ Some place → is_recoverable_at stream place ≡ true
    → is_one_of came place ≡ came_to_some taps off

-- the plan has the sessions of the recording in their order; each is in one part, and in no other; the sessions of a
-- part stand in their order; they are such that a part can be made for them; and it is known what came to its clients
pub record KeepsTogether (taps : List Tap) (told : List MeasuredClient) (plan : Plan) : Type 0 where
  pub sessions_are : plan.sessions ≡ sessions_of (cluster_of taps)
  pub in_one : (pid : Text) → is_among (sessions_of (cluster_of taps)) pid ≡ true
      → (part : ℕ) × (part < length plan.weights.items) × (is_among (pids_in plan part) pid ≡ true)
  pub in_no_other : (one other : ℕ) (pid : Text) → is_among (pids_in plan one) pid ≡ true → is_among (pids_in plan other) pid ≡ true → one ≡ other
  pub in_order : (part : ℕ) → filter (is_among (pids_in plan part)) (sessions_of (cluster_of taps)) ≡ pids_in plan part
  pub keeps_clients : (part : ℕ) → KeepsClients (pids_in plan part) taps
  pub keeps_firsts : (part : ℕ) → KeepsFirsts (pids_in plan part) taps
  pub have_come : (part : ℕ) → TellAll (stream_of taps) (left_for (pids_in plan part) taps).taps (came_in plan told part)

-- whatever taps were planned
abbrev pub PlansKeepTogether : Type 0
PlansKeepTogether = (taps : List Tap) (told : List MeasuredClient) (plan : Plan) → IsPlanOf taps told plan → KeepsTogether taps told plan
