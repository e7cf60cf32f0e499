-- Entries that the stream doesn't have, and that a node's log names.
use Rattle.std.specs.Prelude.{ℕ, Bool, false, not, ◌&&◌, List, length, Option, Some, slice_get}
use Rattle.std.specs.List.{list_any}
use Rattle.std.specs.Option.{option_map_or}
use Rattle.std.specs.Str.{bytes_eq}
use Rattle.aud_base.specs.Lists.{numbers_from}
use Rattle.aud_tap.specs.declared.records.NodeRec.{NodeRec}
use Rattle.aud_tap.specs.declared.records.NodeRec.TheVariants as rec
use Rattle.aud_node.specs.Cluster.{Cluster}
use Rattle.aud_node.specs.NodeTap.{NodeTap}
use Rattle.aud_node.specs.NodeTaps.{node_at}
use Rattle.aud_node.specs.Ordered.{is_ordered}
use Rattle.aud_node.specs.Stream.{Text}

-- the record takes the entry of this offset, or starts after it
abbrev pub names_entry : Text → Option NodeRec → Bool
names_entry off (Some (rec.Start (Some after))) = bytes_eq off after
names_entry off (Some (rec.Take taken)) = bytes_eq off taken
names_entry off (Some (rec.Takes taken)) = bytes_eq off taken
names_entry off _ = false

-- a record of the log names it
abbrev pub is_in_log : Text → List NodeRec → Bool
is_in_log off recs = list_any (λ number. names_entry off (slice_get recs number)) (numbers_from 0 (length recs))

-- so it is in the log of the node at this place, if one is there, and it is out of order, as each log is that names an
-- entry which the stream doesn't have
abbrev pub is_named_at : Cluster → Text → ℕ → Bool
is_named_at c off place = option_map_or (λ (tap : NodeTap). not (is_ordered tap.stream tap.recs) && is_in_log off tap.recs) (node_at c place) false

-- so it is on a node
abbrev pub is_named : Cluster → Text → Bool
is_named c off = list_any (is_named_at c off) (numbers_from 0 (length c.taps))
