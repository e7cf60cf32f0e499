-- A session that is cleared up after its break: in a node's log a `leave` or its `gone` stands after the `break`, and no
-- record between them begins a turn.
use Rattle.std.specs.Prelude.{ℕ, List, [], ◌∷◌, flat_map, Option, Some, None, option_to_list, slice_get}
use Rattle.std.specs.Option.{option_and_then, option_or}
use Rattle.aud_tap.specs.declared.records.NodeRec.{NodeRec}
use Rattle.aud_tap.specs.declared.records.NodeRec.TheVariants as rec
use Rattle.aud_node.specs.Cluster.{Cluster}
use Rattle.aud_node.specs.NodeTap.{NodeTap}
use Rattle.aud_node.specs.NodeTaps.{node_at}
use Rattle.aud_node.specs.OwnPlaces.{own_places}
use Rattle.aud_node.specs.OwnRecords.{own_numbers}
use Rattle.aud_node.specs.Stream.{Text}
use Rattle.aud_session_facts.specs.declared.place.RecordPlace.{RecordPlace}
use Rattle.aud_causes.specs.declared.cause.Cause.{Cause}
use Rattle.aud_causes.specs.declared.cause.Cause.TheVariants.{ClearedAfterBreak}

-- the `break` that no turn of the session follows in the log up to a record of it at this place, where this was that
-- before the record
abbrev pub broke_by : RecordPlace → Option NodeRec → Option RecordPlace → Option RecordPlace
broke_by place (Some (rec.Broke pid turn)) broke = Some place
broke_by place (Some (rec.Opened pid sid nsp)) broke = None
broke_by place (Some (rec.Back pid turn)) broke = None
broke_by place _ broke = broke

-- the record is a `leave` or the `gone`, after this break
abbrev pub cleared_by : RecordPlace → RecordPlace → Option NodeRec → Option Cause
cleared_by broke place (Some (rec.Leave pid room)) = Some (ClearedAfterBreak broke place)
cleared_by broke place (Some (rec.Gone pid)) = Some (ClearedAfterBreak broke place)
cleared_by broke place _ = None

-- the same, if there is such a break
abbrev pub cleared_at : RecordPlace → Option NodeRec → Option RecordPlace → Option Cause
cleared_at place r broke = option_and_then (λ (b : RecordPlace). cleared_by b place r) broke

-- the place of the record with this number on the node
abbrev pub place_on : ℕ → ℕ → RecordPlace
place_on node number = record { node = node; number = number }

-- the first of the session's records with these numbers in the node's log that clears it up, where this break stands
-- before them
abbrev pub first_cleared : List NodeRec → ℕ → Option RecordPlace → List ℕ → Option Cause
first_cleared log node broke [] = None
first_cleared log node broke (number ∷ numbers) =
    option_or
    (cleared_at (place_on node number) (slice_get log number) broke)
    (first_cleared log node (broke_by (place_on node number) (slice_get log number) broke) numbers)

-- the first of all its records in that log
abbrev pub cleared_on : Cluster → Text → ℕ → Option Cause
cleared_on c pid node = option_and_then (λ (tap : NodeTap). first_cleared tap.recs node None (own_numbers tap.recs pid)) (node_at c node)

-- that on each node that has one
abbrev pub cleared_after_break : Cluster → Text → List Cause
cleared_after_break c pid = flat_map (λ node. option_to_list (cleared_on c pid node)) (own_places c pid)
