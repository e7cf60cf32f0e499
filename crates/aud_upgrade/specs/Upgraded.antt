-- Taps in version 2, in which a node takes by one record what it took by many.
use Rattle.std.specs.Prelude.{◌&&◌, ℕ, zero, suc, Bool, true, false, List, [], ◌∷◌, length, map, flat_map, Option, Some, None, slice_get}
use Rattle.aud_tap.specs.declared.records.StreamRec.{StreamRec}
use Rattle.aud_tap.specs.declared.records.NodeRec.{NodeRec}
use Rattle.aud_tap.specs.declared.records.NodeRec.TheVariants.{Take, Takes}
use Rattle.aud_tap.specs.declared.records.Version.TheVariants.{Two}
use Rattle.aud_tap.specs.declared.taps.Tap.{Tap}
use Rattle.aud_tap.specs.declared.taps.Records.{Records}
use Rattle.aud_tap.specs.declared.taps.Records.TheVariants.{Stream, Node, Client}
use Rattle.aud_node.specs.Lists.{numbers_from}
use Rattle.aud_node.specs.Cluster.{stream_of}
use Rattle.aud_node.specs.Cursors.{cursor_at}
use Rattle.aud_node.specs.Ordered.{is_in_order}
use Rattle.aud_upgrade.specs.declared.joins.Joins.{Joins}
use Rattle.aud_upgrade.specs.declared.joins.Joins.TheVariants.{TakeAlone, TakeAndTakes}

-- each `takes` is joined, as each `take` is
abbrev pub joins_takes : Joins → Bool
joins_takes TakeAlone = false
joins_takes TakeAndTakes = true

-- the record is one of those that are joined
abbrev pub is_joined : Joins → NodeRec → Bool
is_joined joins (Take off) = true
is_joined joins (Takes off) = joins_takes joins
is_joined joins _ = false

-- the record, if there is one, is, and is in order after the cursor: a `take` of the position after it, or a `takes` of
-- one past it
abbrev pub takes_after : Joins → List StreamRec → ℕ → Option NodeRec → Bool
takes_after joins stream cursor None = false
takes_after joins stream cursor (Some rec) = is_joined joins rec && is_in_order stream 1 cursor rec

-- the record with this number is
abbrev pub takes_next : Joins → List StreamRec → List NodeRec → ℕ → Bool
takes_next joins stream log number = takes_after joins stream (cursor_at stream log number) (slice_get log number)

-- the record before it is
abbrev pub took_next : Joins → List StreamRec → List NodeRec → ℕ → Bool
took_next joins stream log zero = false
took_next joins stream log (suc number) = takes_next joins stream log number

-- what stands for a record, by whether the one before it, it, and the one after it are such: for the last one of two or
-- more a `takes` of its offset, and for the others of them nothing; each other record stays
abbrev pub joined : Bool → Bool → Bool → Option NodeRec → List NodeRec
joined before here after None = []
joined before true true (Some rec) = []
joined true true false (Some (Take off)) = Takes off ∷ []
joined before here after (Some rec) = rec ∷ []

-- what stands for the record with this number
abbrev pub upgraded_at : Joins → List StreamRec → List NodeRec → ℕ → List NodeRec
upgraded_at joins stream log number =
    joined (took_next joins stream log number) (takes_next joins stream log number) (takes_next joins stream log (suc number)) (slice_get log number)

-- a node's records: each maximal run of two or more neighbouring such records is one record
abbrev pub upgraded_log : Joins → List StreamRec → List NodeRec → List NodeRec
upgraded_log joins stream log = flat_map (upgraded_at joins stream log) (numbers_from 0 (length log))

abbrev pub upgraded_records : Joins → List StreamRec → Records → Records
upgraded_records joins stream (Stream recs) = Stream recs
upgraded_records joins stream (Node recs) = Node (upgraded_log joins stream recs)
upgraded_records joins stream (Client recs) = Client recs

abbrev pub upgraded_tap : Joins → List StreamRec → Tap → Tap
upgraded_tap joins stream tap = record { name = tap.name; version = Two; records = upgraded_records joins stream tap.records }

-- each tap in version 2; the records of the stream and of the clients stay
abbrev pub upgraded_by : Joins → List Tap → List Tap
upgraded_by joins taps = map (upgraded_tap joins (stream_of taps)) taps

-- so where `take` records alone are joined, and each `takes` stays
abbrev pub upgraded : List Tap → List Tap
upgraded taps = upgraded_by TakeAlone taps

-- and where both are: whatever a node took in order between two other records it takes by one
abbrev pub with_runs : List Tap → List Tap
with_runs taps = upgraded_by TakeAndTakes taps
