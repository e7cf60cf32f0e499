use Rattle.std.proofs.Common.{◌≡◌, drop}
use Rattle.aud_node.specs.Cluster.{stream_of}
use Rattle.aud_node.proofs.logs.entries_of.Given as goal

abbrev pub invariant-loop-tap : goal.invariant-loop-tap
invariant-loop-tap l = stream_of l.taps ≡ stream_of (drop l.tap-index l.taps)
