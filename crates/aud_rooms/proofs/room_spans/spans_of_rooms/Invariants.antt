use Rattle.std.proofs.Common.{◌≡◌, map}
use Rattle.std.specs.Map.Iter.{deref_pair}
use Rattle.aud_rooms.specs.Private.Building.{spans_upto}
use Rattle.aud_rooms.proofs.room_spans.spans_of_rooms.Given as goal

abbrev pub invariant-loop-room : goal.invariant-loop-room
invariant-loop-room l = l.spans.items ≡ spans_upto l.covered (map deref_pair l.yielded)
