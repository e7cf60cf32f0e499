use Rattle.std.proofs.Common.{◌≡◌}
use Rattle.aud_node.specs.Private.TapsOfNodes.{node_places_from}
use Rattle.aud_node.proofs.logs.places_of_nodes.Given as goal

abbrev pub invariant-loop-place : goal.invariant-loop-place
invariant-loop-place l = l.places.items ≡ node_places_from l.taps 0 l.place
