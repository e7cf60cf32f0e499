use Rattle.std.proofs.Common.{◌≡◌, drop}
use Rattle.std.specs.List.{find}
use Rattle.aud_findings.specs.RoomChanges.{is_changed}
use Rattle.aud_findings.proofs.rooms.first_room.Given as goal

-- none of the rooms so far has such a change
abbrev pub invariant-loop-room : goal.invariant-loop-room
invariant-loop-room l =
    find (is_changed l.logs l.cert l.reach l.joined) (drop l.room-index l.room-items) ≡ find (is_changed l.logs l.cert l.reach l.joined) l.room-items
