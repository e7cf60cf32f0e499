-- The record that a packed one is.
use Rattle.aud_reader.specs.declared.bundle.packed.PackedRec.{PackedRec}
use Rattle.aud_tap.specs.declared.records.NodeRec.TheVariants.{Take, Takes, Join, Leave, Broke, Back, Gone}
use Rattle.aud_tap.specs.declared.records.Rec.{Rec}
use Rattle.aud_tap.specs.declared.records.Rec.TheVariants.{Header, Stream, Node, Client}

abbrev pub rec_of : PackedRec → Rec
rec_of (PackedRec.Header of v) = Header of v
rec_of (PackedRec.Stream entry) = Stream entry.value
rec_of (PackedRec.Node r) = Node r.value
rec_of (PackedRec.Take off) = Node (Take off)
rec_of (PackedRec.Takes off) = Node (Takes off)
rec_of (PackedRec.Join pid room) = Node (Join pid room)
rec_of (PackedRec.Leave pid room) = Node (Leave pid room)
rec_of (PackedRec.Broke pid turn) = Node (Broke pid turn)
rec_of (PackedRec.Back pid turn) = Node (Back pid turn)
rec_of (PackedRec.Gone pid) = Node (Gone pid)
rec_of (PackedRec.Client r) = Client r
