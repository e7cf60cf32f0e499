use Rattle.std.proofs.Common.{◌≡◌, take}
use Rattle.std.specs.List.{list_any}
use Rattle.std.specs.Str.{bytes_eq}
use Rattle.aud_base.specs.Places.{noted}
use Rattle.aud_node.specs.Stream.{Text}
use Rattle.aud_node.specs.Private.AddresseeIndex.{kept_of}
use Rattle.aud_node.proofs.addressees.note_each.Given as goal

abbrev pub invariant-loop-room : goal.invariant-loop-room
invariant-loop-room l = (q : Text) → kept_of l.positions q ≡ noted l.position (list_any (λ room. bytes_eq room q) (take l.room-index l.rooms)) (kept_of l.fn.positions q)
