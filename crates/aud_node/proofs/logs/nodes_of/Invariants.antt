use Rattle.std.proofs.Common.{◌≡◌, map, take}
use Rattle.aud_node.specs.NodeTaps.{node_tap}
use Rattle.aud_node.proofs.logs.nodes_of.Given as goal

abbrev pub invariant-loop-tap : goal.invariant-loop-tap
invariant-loop-tap l = l.nodes.items ≡ map (node_tap l.stream) (take l.tap-index l.taps)
