-- When a row is true: it stands on the line of a record, in that record's tap, and the record says that, of that session.
use Rattle.std.specs.Prelude.{◌≡◌, ℕ, List, Some, slice_get}
use Rattle.std.specs.Option.{option_copied}
use Rattle.aud_tap.specs.declared.records.StreamRec.{StreamRec}
use Rattle.aud_tap.specs.declared.taps.Tap.{Tap}
use Rattle.aud_tap.specs.declared.taps.Records.{Records}
use Rattle.aud_tap.specs.declared.taps.Records.TheVariants.{Stream, Node, Client}
use Rattle.aud_node.specs.Cluster.{Cluster}
use Rattle.aud_input.specs.TapLines.{TapLines, kept_line}
use Rattle.aud_rows.specs.declared.row.Row.{Row}
use Rattle.aud_rows.specs.Seen.{SaysSeen, says_seen}
use Rattle.aud_rows.specs.NodeSays.{node_says_at, session_at}
use Rattle.aud_rows.specs.StreamSays.{stream_says_at}
use Rattle.aud_rows.specs.ClientSays.{ClientSays}

-- of these records of a tap, the one with this number says this, where this is the stream
abbrev pub RecordSays : List StreamRec → Records → ℕ → SaysSeen → Type 0
RecordSays stream (Stream recs) number says = stream_says_at recs number ≡ Some says
RecordSays stream (Node recs) number says = node_says_at stream recs number ≡ Some says
RecordSays stream (Client recs) number says = ClientSays stream recs number says

-- the row has the line of the record with this number in the tap at this place, that tap's name, the session that the
-- record speaks of, and what it says; these are the lines that are kept
pub record IsTrueRow (c : Cluster) (lines : List TapLines) (row : Row) : Type 0 where
  pub place : ℕ
  pub number : ℕ
  pub tap : Tap
  pub is_there : slice_get c.taps place ≡ Some tap
  pub is_named : row.tap.now ≡ tap.name
  pub stands : kept_line lines place number ≡ Some row.line
  pub is_of : option_copied row.session ≡ session_at tap.records number
  pub says_it : RecordSays c.stream tap.records number (says_seen row.says)
