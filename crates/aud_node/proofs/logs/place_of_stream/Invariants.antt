use Rattle.std.proofs.Common.{◌≡◌, ◌+◌, drop, option_map}
use Rattle.aud_node.specs.Cluster.{stream_place}
use Rattle.aud_node.proofs.logs.place_of_stream.Given as goal

abbrev pub invariant-loop-place : goal.invariant-loop-place
invariant-loop-place l = stream_place l.taps ≡ option_map (λ p. l.place + p) (stream_place (drop l.place l.taps))
