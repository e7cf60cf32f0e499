use Rattle.std.proofs.Common.{◌≡◌, drop}
use Rattle.std.specs.List.{list_any}
use Rattle.std.specs.Str.{bytes_eq}
use Rattle.aud_causes.proofs.changed.are_leavable.Given as goal

-- none of the rooms so far is the session's own
abbrev pub invariant-loop-room : goal.invariant-loop-room
invariant-loop-room l = list_any (bytes_eq l.own) (drop l.room-index l.rooms) ≡ list_any (bytes_eq l.own) l.rooms
