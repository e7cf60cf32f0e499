use Rattle.std.proofs.Common.{◌≡◌, drop}
use Rattle.std.specs.List.{find}
use Rattle.std.specs.FinSet as set
use Rattle.aud_rooms.specs.Spans.{rooms_by_spans}
use Rattle.aud_session_facts.proofs.not_due.first_held.Given as goal

-- none of the rooms that were gone over is held
abbrev pub invariant-loop-room : goal.invariant-loop-room
invariant-loop-room l =
    find (set.contains (rooms_by_spans l.spans l.position)) (drop l.room-index l.rooms) ≡ find (set.contains (rooms_by_spans l.spans l.position)) l.rooms
