use Rattle.std.proofs.Common.{ap, ◌∙◌}
use Rattle.std.specs.Str.{bytes_eq}
use Rattle.aud_base.specs.Places.{noted}
use Rattle.aud_base.proofs.NotedPlaces.{noted-item}
use Rattle.aud_node.specs.Stream.{Text}
use Rattle.aud_node.specs.Private.AddresseeIndex.{kept_of}
use Rattle.aud_node.proofs.addressees.note_each.Goals as goal

pub loop-room-preserved : goal.loop-room-preserved
loop-room-preserved c = λ q.
    noted-item c.args.position (λ (room : Text). bytes_eq room q) c.args.rooms.now c.loop-room.room-index c.room-item.result
    (kept_of c.args.positions.now q) (kept_of c.loop-room.positions q) (kept_of c.note.new.self q)
    c.loop-room-test.true c.room-item.is (c.loop-room.invariant q)
    (c.in_ok-note.ensures q ∙ ap (λ (t : Text). noted c.args.position (bytes_eq t q) (kept_of c.loop-room.positions q)) c.as_str.ensures)
