-- The node logs and the client taps of a cluster.
use Rattle.std.specs.Prelude.{ℕ, List, Option, Some, None, slice_get}
use Rattle.std.specs.Option.{option_and_then}
use Rattle.aud_tap.specs.declared.records.StreamRec.{StreamRec}
use Rattle.aud_tap.specs.declared.records.ClientRec.{ClientRec}
use Rattle.aud_tap.specs.declared.taps.Tap.{Tap}
use Rattle.aud_tap.specs.declared.taps.Records.{Records}
use Rattle.aud_tap.specs.declared.taps.Records.TheVariants.{Stream, Node, Client}
use Rattle.aud_node.specs.Cluster.{Cluster}
use Rattle.aud_node.specs.NodeTap.{NodeTap}

-- the node's log, if the records are a node's
abbrev pub node_of_records : List StreamRec → Records → Option NodeTap
node_of_records stream (Stream recs) = None
node_of_records stream (Node recs) = Some (record { stream = stream; recs = recs })
node_of_records stream (Client recs) = None

abbrev pub node_tap : List StreamRec → Tap → Option NodeTap
node_tap stream tap = node_of_records stream tap.records

-- the log of the node at this place
abbrev pub node_at : Cluster → ℕ → Option NodeTap
node_at c place = option_and_then (node_tap c.stream) (slice_get c.taps place)

-- the records, if they are a client's
abbrev pub client_records : Records → Option (List ClientRec)
client_records (Stream recs) = None
client_records (Node recs) = None
client_records (Client recs) = Some recs

abbrev pub client_recs : Tap → Option (List ClientRec)
client_recs tap = client_records tap.records

-- the records of the client's tap at this place
abbrev pub client_at : Cluster → ℕ → Option (List ClientRec)
client_at c place = option_and_then client_recs (slice_get c.taps place)
