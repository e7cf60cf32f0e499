-- The node logs that are kept at their places.
use Rattle.std.proofs.Common.{◌≡◌, ℕ, List, map, arith, Option, slice_get}
use Rattle.std.specs.Option.{option_and_then}
use Rattle.std.proofs.lemmas.Option.{slice_get-map}
use Rattle.aud_tap.specs.declared.taps.Tap.{Tap}
use Rattle.aud_node.specs.Cluster.{cluster_of, stream_of}
use Rattle.aud_node.specs.NodeTap.{NodeTap}
use Rattle.aud_node.specs.NodeTaps.{node_tap, node_at}

-- what is there, where it may be missing in two ways
abbrev pub flat : {Y : Type 0} → Option (Option Y) → Option Y
flat o = option_and_then (λ y. y) o

-- what is kept at the place is the log of the node there
pub node_at-kept : (taps : List Tap) (nodes : List (Option NodeTap)) (place : ℕ) → nodes ≡ map (node_tap (stream_of taps)) taps
    → flat (slice_get nodes place) ≡ node_at (cluster_of taps) place
node_at-kept taps nodes place kept = grind (arith, kept, slice_get-map (node_tap (stream_of taps)) taps place)
