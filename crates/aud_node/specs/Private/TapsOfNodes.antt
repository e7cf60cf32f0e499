-- Which taps are nodes', and their logs by their places.
use Rattle.std.specs.Prelude.{ℕ, List, Bool, false, true, Option, Some, None, slice_get}
use Rattle.std.specs.List.{filter}
use Rattle.std.specs.Option.{option_and_then}
use Rattle.aud_base.specs.Lists.{numbers_from}
use Rattle.aud_tap.specs.declared.records.StreamRec.{StreamRec}
use Rattle.aud_tap.specs.declared.taps.Tap.{Tap}
use Rattle.aud_tap.specs.declared.taps.Records.{Records}
use Rattle.aud_tap.specs.declared.taps.Records.TheVariants.{Stream, Node, Client}
use Rattle.aud_node.specs.NodeTap.{NodeTap}
use Rattle.aud_node.specs.NodeTaps.{node_tap}

abbrev pub are_of_node : Records → Bool
are_of_node (Stream recs) = false
are_of_node (Node recs) = true
are_of_node (Client recs) = false

-- the tap is a node's
abbrev pub is_node : Tap → Bool
is_node tap = are_of_node tap.records

abbrev pub is_some_node : Option Tap → Bool
is_some_node None = false
is_some_node (Some tap) = is_node tap

-- of so many places from the first on, those of nodes' taps
abbrev pub node_places_from : List Tap → ℕ → ℕ → List ℕ
node_places_from taps first count = filter (λ place. is_some_node (slice_get taps place)) (numbers_from first count)

-- the log of the node whose tap is at the place
abbrev pub node_in : List StreamRec → List Tap → ℕ → Option NodeTap
node_in stream taps place = option_and_then (node_tap stream) (slice_get taps place)
