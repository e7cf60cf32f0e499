-- What a fault of the recording may come from.
use Rattle.std.specs.Prelude.{◌≡◌, ℕ, Bool, true, false, not, List, [], ◌∷◌, flat_map, length, nat_eq, Option, Some, None, option_to_list, slice_get}
use Rattle.std.specs.List.{list_any}
use Rattle.std.specs.Option.{option_and_then, option_map}
use Rattle.aud_tap.specs.declared.records.NodeRec.{NodeRec}
use Rattle.aud_tap.specs.declared.records.NodeRec.TheVariants as rec
use Rattle.aud_tap.specs.declared.taps.Tap.{Tap}
use Rattle.aud_tap.specs.declared.taps.Records.{Records}
use Rattle.aud_tap.specs.declared.taps.Records.TheVariants as records
use Rattle.aud_node.specs.Cluster.{Cluster}
use Rattle.aud_node.specs.NodeTap.{NodeTap}
use Rattle.aud_node.specs.NodeTaps.{node_at}
use Rattle.aud_node.specs.OwnPlaces.{own_places}
use Rattle.aud_node.specs.OwnRecords.{own_numbers}
use Rattle.aud_node.specs.Stream.{Text}
use Rattle.aud_client.specs.Replies.{naming_places}
use Rattle.aud_cert.specs.declared.fault.Fault.{Fault}
use Rattle.aud_cert.specs.declared.fault.Fault.TheVariants as fault
use Rattle.aud_session_facts.specs.declared.place.RecordPlace.{RecordPlace}
use Rattle.aud_causes.specs.declared.cause.Cause.{Cause}
use Rattle.aud_causes.specs.declared.cause.Cause.TheVariants.{NodeNotTapped, OpenNotRecorded}
use Rattle.aud_causes.specs.Chain.{causes_of_turns}
use Rattle.aud_causes.specs.Delivery.{cause_if, held}
use Rattle.aud_causes.specs.Logs.{order_cause}
use Rattle.aud_causes.specs.Names.{client_causes}

-- the session's first record on the first node that has any
abbrev pub first_own : Cluster → Text → Option RecordPlace
first_own c pid =
    option_and_then
    (λ node.
    option_and_then
    (λ (tap : NodeTap). option_map (λ number. record { node = node; number = number }) (slice_get (own_numbers tap.recs pid) 0))
    (node_at c node))
    (slice_get (own_places c pid) 0)

-- these are the records of a node's tap
abbrev pub is_of_node : Records → Bool
is_of_node (records.Stream recs) = false
is_of_node (records.Node recs) = true
is_of_node (records.Client recs) = false

-- the tap is a node's
abbrev pub is_node : Tap → Bool
is_node tap = is_of_node tap.records

-- no log has the session's `open`, where this is its first record on a node, if it has any; without one, where a node is
-- tapped
abbrev pub open_not_recorded : Cluster → Option RecordPlace → Option Cause
open_not_recorded c (Some first) = Some (OpenNotRecorded (Some first))
open_not_recorded c None = cause_if (list_any is_node c.taps) (OpenNotRecorded None)

-- the record, with which a log's records of the session begin, is of its turn 0: the `break` of that turn, or one that
-- stands before any `back` or `break`
abbrev pub is_of_first_turn : Option NodeRec → Bool
is_of_first_turn None = false
is_of_first_turn (Some (rec.Back pid turn)) = false
is_of_first_turn (Some (rec.Broke pid turn)) = nat_eq turn 0
is_of_first_turn _ = true

-- the session's first record in the log of the node at this place
abbrev pub first_on : Cluster → Text → ℕ → Option NodeRec
first_on c pid node =
    option_and_then (λ (tap : NodeTap). option_and_then (slice_get tap.recs) (slice_get (own_numbers tap.recs pid) 0)) (node_at c node)

-- that of one of these nodes is of turn 0
abbrev pub has_first_turn : Cluster → Text → List ℕ → Bool
has_first_turn c pid nodes = list_any (λ node. is_of_first_turn (first_on c pid node)) nodes

-- the causes of a session that no node opened: its `open` alone is missing; or its node isn't tapped, for no log has a
-- record of its turn 0
abbrev pub no_log_causes : Cluster → Text → List Cause
no_log_causes c pid =
    held (open_not_recorded c (first_own c pid) ∷ cause_if (not (has_first_turn c pid (own_places c pid))) (NodeNotTapped 0) ∷ [])

-- the causes for which these records of nodes are out of order
abbrev pub order_causes : Cluster → List RecordPlace → List Cause
order_causes c unordered = flat_map (λ place. option_to_list (order_cause c place)) unordered

-- the causes of a fault for which the session with this pid has no certificate, where this is the place of its client's
-- tap, if it has one, and these records of its nodes are out of order; none of another fault
abbrev pub AreRecordedCauses : Cluster → Option ℕ → Text → List RecordPlace → Fault → List Cause → Type 0
AreRecordedCauses c client pid unordered fault.NoLog found = found ≡ no_log_causes c pid
AreRecordedCauses c client pid unordered fault.Chain found = found ≡ causes_of_turns c client pid
AreRecordedCauses c client pid unordered fault.Order found = found ≡ order_causes c unordered
AreRecordedCauses c client pid unordered fault.Client found = found ≡ client_causes c pid (length (naming_places c.taps pid))
AreRecordedCauses c client pid unordered _ found = found ≡ []
