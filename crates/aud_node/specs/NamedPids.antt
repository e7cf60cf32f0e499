-- The sessions that the nodes' records name.
use Rattle.std.specs.Prelude.{List, flat_map, Some}
use Rattle.std.specs.List.{filter_map}
use Rattle.aud_base.specs.FirstTexts.{first_texts}
use Rattle.aud_tap.specs.declared.taps.Tap.{Tap}
use Rattle.aud_node.specs.Cluster.{node_recs}
use Rattle.aud_node.specs.Stream.{Text}
use Rattle.aud_node.specs.TurnRecords.{pid_of}

-- the pids that a tap's records name, if it is a node's
abbrev pub node_pids : Tap → List Text
node_pids tap = filter_map pid_of (node_recs (Some tap.records))

-- each pid that a node's record names, once: in the order of the headers, and then of the records
abbrev pub named_pids : List Tap → List Text
named_pids taps = first_texts (flat_map node_pids taps)
