use Rattle.std.proofs.Common.{◌≡◌, drop, map}
use Rattle.aud_cert.specs.Certificate.{turn_at}
use Rattle.aud_causes.specs.Extra.{first_left}
use Rattle.aud_causes.proofs.extra.first_left.Given as goal

-- the rooms so far give none
abbrev pub invariant-loop-room : goal.invariant-loop-room
invariant-loop-room l =
    first_left l.logs l.pid (map (turn_at l.logs) l.turns) l.reach (drop l.room-index l.rooms)
    ≡ first_left l.logs l.pid (map (turn_at l.logs) l.turns) l.reach l.rooms
