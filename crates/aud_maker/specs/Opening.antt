-- What the first record of the turns opens.
use Rattle.std.specs.Prelude.{List, [], ◌∷◌, Option, Some, None, slice_get}
use Rattle.aud_tap.specs.declared.records.NodeRec.{NodeRec}
use Rattle.aud_tap.specs.declared.records.NodeRec.TheVariants.{Opened}
use Rattle.aud_node.specs.Stream.{Text}
use Rattle.aud_node.specs.Cluster.{Cluster, node_log}
use Rattle.aud_rooms.specs.Turns.{Turn}

-- the sid and the namespace that an `open` names
abbrev pub names_opened : Option NodeRec → Option (Text × Text)
names_opened (Some (Opened pid sid nsp)) = Some (sid, nsp)
names_opened _ = None

-- those that the first turn's first record names
abbrev pub opening_of : Cluster → List Turn → Option (Text × Text)
opening_of c [] = None
opening_of c (t ∷ later) = names_opened (slice_get (node_log c t.node) t.from)
