-- What the records of a node say, and of which session.
use Rattle.std.specs.Prelude.{ℕ, suc, List, Option, None, slice_get, unwrap_or}
use Rattle.std.specs.Option.{option_map, option_and_then}
use Rattle.aud_tap.specs.declared.records.StreamRec.{StreamRec}
use Rattle.aud_tap.specs.declared.records.NodeRec.{NodeRec}
use Rattle.aud_tap.specs.declared.records.NodeRec.TheVariants as tap
use Rattle.aud_tap.specs.declared.taps.Records.{Records}
use Rattle.aud_tap.specs.declared.taps.Records.TheVariants as records
use Rattle.aud_node.specs.Stream.{Text, position}
use Rattle.aud_node.specs.TurnRecords.{pid_of}
use Rattle.aud_node.specs.Cursors.{cursor_at}
use Rattle.aud_rows.specs.Seen.{SaysSeen, Start, Take, Takes, Open, Join, Leave, Break, Back, Gone}

-- the position of the entry with this offset, 0 where the stream has no such entry
abbrev pub position_of : List StreamRec → Text → ℕ
position_of stream off = unwrap_or (position stream off) 0

-- what the record says, where this is the stream, and this the node's cursor after the record
abbrev pub node_says : List StreamRec → ℕ → NodeRec → SaysSeen
node_says stream cursor (tap.Start off) = Start cursor
node_says stream cursor (tap.Take off) = Take (position_of stream off) off
node_says stream cursor (tap.Takes off) = Takes (position_of stream off) off
node_says stream cursor (tap.Opened pid sid nsp) = Open sid nsp cursor
node_says stream cursor (tap.Join pid room) = Join room
node_says stream cursor (tap.Leave pid room) = Leave room
node_says stream cursor (tap.Broke pid turn) = Break turn cursor
node_says stream cursor (tap.Back pid turn) = Back turn cursor
node_says stream cursor (tap.Gone pid) = Gone

-- what the record with this number of a node's log says
abbrev pub node_says_at : List StreamRec → List NodeRec → ℕ → Option SaysSeen
node_says_at stream log number = option_map (node_says stream (cursor_at stream log (suc number))) (slice_get log number)

-- the session that the record with this number of a tap speaks of: that whose pid a node's record names
abbrev pub session_at : Records → ℕ → Option Text
session_at (records.Node recs) number = option_and_then pid_of (slice_get recs number)
session_at (records.Stream recs) number = None
session_at (records.Client recs) number = None
