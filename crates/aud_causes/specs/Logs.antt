-- What a fault of the nodes' logs may come from.
use Rattle.std.specs.Prelude.{ℕ, suc, List, length, Option, Some, None, if◌then◌else◌, nat_eq, nat_le, nat_lt, slice_get}
use Rattle.std.specs.List.{filter}
use Rattle.std.specs.Option.{option_and_then}
use Rattle.aud_base.specs.Lists.{numbers_from}
use Rattle.aud_tap.specs.declared.records.StreamRec.{StreamRec}
use Rattle.aud_tap.specs.declared.records.NodeRec.{NodeRec}
use Rattle.aud_tap.specs.declared.records.NodeRec.TheVariants as rec
use Rattle.aud_client.specs.StaySeen.{StaySeen}
use Rattle.aud_node.specs.Cluster.{Cluster, node_log}
use Rattle.aud_node.specs.Cursors.{cursor_at}
use Rattle.aud_node.specs.Stream.{position}
use Rattle.aud_session_facts.specs.declared.place.RecordPlace.{RecordPlace}
use Rattle.aud_causes.specs.declared.cause.Cause.{Cause}
use Rattle.aud_causes.specs.Facts.{is_recovery}
use Rattle.aud_causes.specs.declared.cause.Cause.TheVariants.{NoStart, RestartedInOldLog, NotInStream, EntriesSkippedByNode, EntryTakenAgain}

-- the numbers of the stays by which the client came back: the first recovery follows turn 0, the next one turn 1, and so
-- on
abbrev pub recoveries : List StaySeen → List ℕ
recoveries stays = filter (λ number. is_recovery (slice_get stays number)) (numbers_from 0 (length stays))

-- the stream doesn't have the position
abbrev pub unknown : RecordPlace → Option ℕ → Option Cause
unknown place None = Some (NotInStream place)
unknown place (Some p) = None

-- of a log's first record: it is no `start`, or one after an entry that the stream doesn't have
abbrev pub first_cause : List StreamRec → RecordPlace → NodeRec → Option Cause
first_cause stream place (rec.Start off) = option_and_then (λ o. unknown place (position stream o)) off
first_cause stream place _ = Some (NoStart place)

-- the node has taken the entry
abbrev pub taken_again : RecordPlace → ℕ → ℕ → Option Cause
taken_again place cursor p = if nat_le p cursor then Some (EntryTakenAgain place cursor p) else None

-- of a `take` of the entry at this position, if the stream has it, where the node has this cursor before it: it stands past
-- the next one, or the node has taken it
abbrev pub take_cause : RecordPlace → ℕ → Option ℕ → Option Cause
take_cause place cursor None = Some (NotInStream place)
take_cause place cursor (Some p) = if nat_lt (suc cursor) p then Some (EntriesSkippedByNode place cursor p) else taken_again place cursor p

-- the same of a `takes`, which is of all entries up to that one
abbrev pub takes_cause : RecordPlace → ℕ → Option ℕ → Option Cause
takes_cause place cursor None = Some (NotInStream place)
takes_cause place cursor (Some p) = taken_again place cursor p

-- of a later record, where the node has this cursor before it: it is a `start`, or a `take` or `takes` out of order
abbrev pub later_cause : List StreamRec → RecordPlace → ℕ → NodeRec → Option Cause
later_cause stream place cursor (rec.Start off) = Some (RestartedInOldLog place)
later_cause stream place cursor (rec.Take off) = take_cause place cursor (position stream off)
later_cause stream place cursor (rec.Takes off) = takes_cause place cursor (position stream off)
later_cause stream place cursor _ = None

-- of a record
abbrev pub record_cause : List StreamRec → RecordPlace → ℕ → NodeRec → Option Cause
record_cause stream place cursor r = if nat_eq place.number 0 then first_cause stream place r else later_cause stream place cursor r

-- of the record of a node that is out of order
abbrev pub order_cause : Cluster → RecordPlace → Option Cause
order_cause c place =
    option_and_then
    (record_cause c.stream place (cursor_at c.stream (node_log c place.node) place.number))
    (slice_get (node_log c place.node) place.number)
