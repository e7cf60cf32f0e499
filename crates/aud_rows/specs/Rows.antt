-- The rows of records.
use Rattle.std.specs.Prelude.{ℕ, zero, suc, List, [], Option, Some, None, slice_get}
use Rattle.std.specs.Option.{option_map, option_and_then}
use Rattle.aud_tap.specs.declared.records.StreamRec.{StreamRec}
use Rattle.aud_tap.specs.declared.taps.Tap.{Tap}
use Rattle.aud_tap.specs.declared.taps.Records.{Records}
use Rattle.aud_tap.specs.declared.taps.Records.TheVariants.{Stream}
use Rattle.aud_node.specs.Cluster.{Cluster, log_at, node_log, stream_place}
use Rattle.aud_input.specs.TapLines.{TapLines, kept_line}
use Rattle.aud_rows.specs.declared.row.Role.{Role}
use Rattle.aud_rows.specs.Seen.{SaysSeen, RowSeen}
use Rattle.aud_rows.specs.NodeSays.{node_says_at, session_at}
use Rattle.aud_rows.specs.StreamSays.{stream_says_at}

-- the row of a record that says this and is shown for this: the record with this number in the tap at this place; none
-- where there is no such tap, or the record's line isn't known
abbrev pub row_of : Cluster → List TapLines → ℕ → ℕ → Role → SaysSeen → Option RowSeen
row_of c lines place number role says =
    option_and_then (λ (tap : Tap). option_map (λ line. record { line = line; tap = tap.name; session = session_at tap.records number; says = says; role = role }) (kept_line lines place number)) (slice_get c.taps place)

-- the number of a record, and what it says
abbrev pub Said : Type 0
Said = ℕ × SaysSeen

-- the row of a record that says this, of the tap at this place
abbrev pub said_row : Cluster → List TapLines → ℕ → Role → Said → Option RowSeen
said_row c lines place role said = row_of c lines place said.0 role said.1

-- ---- nodes

-- the row of the record with this number of the node at this place
abbrev pub node_row : Cluster → List TapLines → ℕ → ℕ → Role → Option RowSeen
node_row c lines place number role = option_and_then (row_of c lines place number role) (node_says_at c.stream (node_log c place) number)

-- ---- the stream

-- the records, if they are a stream's
abbrev pub stream_recs : Option Records → List StreamRec
stream_recs (Some (Stream recs)) = recs
stream_recs _ = []

-- the row of the record with this number of the stream's tap at this place
abbrev pub entry_row_at : Cluster → List TapLines → ℕ → Role → ℕ → Option RowSeen
entry_row_at c lines number role place = option_and_then (row_of c lines place number role) (stream_says_at (stream_recs (log_at c place)) number)

-- the row of the entry at this position of the first stream tap
abbrev pub stream_row : Cluster → List TapLines → ℕ → Role → Option RowSeen
stream_row c lines zero role = None
stream_row c lines (suc number) role = option_and_then (entry_row_at c lines number role) (stream_place c.taps)
