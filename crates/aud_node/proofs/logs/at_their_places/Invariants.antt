use Rattle.std.proofs.Common.{◌≡◌, ◌-◌, length, map, take}
use Rattle.aud_node.specs.NodeTaps.{node_tap}
use Rattle.aud_node.specs.Private.TapsOfNodes.{node_in, node_places_from}
use Rattle.aud_node.proofs.logs.at_their_places.Given as goal

abbrev pub invariant-loop-place : goal.invariant-loop-place
invariant-loop-place l = record {
  nodes : l.nodes.items ≡ map (node_tap l.all.stream) (take l.place l.all.taps.now);
  logs : l.logs.rest.items ≡ map (node_in l.all.stream l.all.taps.now) (node_places_from l.all.taps.now l.place (length l.all.taps.now - l.place));
}
