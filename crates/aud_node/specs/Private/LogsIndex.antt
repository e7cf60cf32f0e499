-- What is kept of the taps.
use Rattle.std.specs.Prelude.{◌≡◌, map, slice_get}
use Rattle.aud_base.specs.Places.{places_of, texts_of}
use Rattle.aud_node.specs.Stream.{Text}
use Rattle.aud_node.specs.Names.{place_of}
use Rattle.aud_node.specs.NodeTaps.{node_tap}
use Rattle.aud_node.specs.Cluster.{cluster_of, stream_of, stream_place}
use Rattle.aud_node.specs.NamedPids.{named_pids}
use Rattle.aud_node.specs.OwnPlaces.{own_places}
use Rattle.aud_node.specs.declared.logs.Logs.TheInside.{Inside}

-- the names, the stream's place and the entries are those of the taps, each node's log is kept at its place, and of
-- each pid the places of the nodes with records of it, the pids in the order in which records first name them
pub record HoldsTaps (l : Inside) : Type 0 where
  pub places_are : (name : Text) → slice_get (places_of l.names name) 0 ≡ place_of l.taps.now name
  pub place_is : l.stream_place ≡ stream_place l.taps.now
  pub stream_is : l.stream ≡ stream_of l.taps.now
  pub nodes_are : l.nodes.items ≡ map (node_tap l.stream) l.taps.now
  pub own_are : (pid : Text) → places_of l.own pid ≡ own_places (cluster_of l.taps.now) pid
  pub pids_are : texts_of l.own ≡ named_pids l.taps.now
