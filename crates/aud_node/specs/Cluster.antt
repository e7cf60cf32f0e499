-- The cluster: the stream, and all taps with their records.
use Rattle.std.specs.Prelude.{ℕ, Bool, true, false, List, [], ◌∷◌, Option, Some, slice_get}
use Rattle.std.specs.Option.{option_map}
use Rattle.aud_tap.specs.declared.records.StreamRec.{StreamRec}
use Rattle.aud_tap.specs.declared.records.NodeRec.{NodeRec}
use Rattle.aud_tap.specs.declared.taps.Tap.{Tap}
use Rattle.aud_tap.specs.declared.taps.Records.{Records}
use Rattle.aud_tap.specs.declared.taps.Records.TheVariants.{Stream, Node, Client}
use Rattle.aud_node.specs.Lists.{first_index}

-- the stream's entries, and all taps in the order of their headers
pub record Cluster : Type 0 where
  pub stream : List StreamRec
  pub taps : List Tap

-- the entries, if the tap is the stream's; else these
abbrev pub entries_or : List StreamRec → Records → List StreamRec
entries_or entries (Stream recs) = recs
entries_or entries (Node recs) = entries
entries_or entries (Client recs) = entries

-- the entries of the first stream tap; none where there is none
abbrev pub stream_of : List Tap → List StreamRec
stream_of [] = []
stream_of (tap ∷ taps) = entries_or (stream_of taps) tap.records

-- these are the records of a stream's tap
abbrev pub is_stream : Records → Bool
is_stream (Stream recs) = true
is_stream (Node recs) = false
is_stream (Client recs) = false

-- the place of the first stream tap; places count from 0
abbrev pub stream_place : List Tap → Option ℕ
stream_place taps = first_index (λ (tap : Tap). is_stream tap.records) taps

-- the cluster that the taps tell
abbrev pub cluster_of : List Tap → Cluster
cluster_of taps = record { stream = stream_of taps; taps = taps }

-- the records of the tap at this place
abbrev pub log_at : Cluster → ℕ → Option Records
log_at c place = option_map (λ (tap : Tap). tap.records) (slice_get c.taps place)

-- the records, if they are a node's
abbrev pub node_recs : Option Records → List NodeRec
node_recs (Some (Node recs)) = recs
node_recs _ = []

-- the records of the node at this place
abbrev pub node_log : Cluster → ℕ → List NodeRec
node_log c place = node_recs (log_at c place)
