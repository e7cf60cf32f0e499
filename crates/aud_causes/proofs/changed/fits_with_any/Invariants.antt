use Rattle.std.proofs.Common.{◌≡◌, drop}
use Rattle.aud_causes.specs.Changed.{fits_with_any}
use Rattle.aud_causes.proofs.changed.fits_with_any.Given as goal

-- the rooms to come give it
abbrev pub invariant-loop-room : goal.invariant-loop-room
invariant-loop-room l =
    fits_with_any l.session.logs.now l.session.pid.now l.session.turns.now l.session.spans.now l.session.came.now l.joined l.position (drop l.room-index l.rooms)
    ≡ fits_with_any l.session.logs.now l.session.pid.now l.session.turns.now l.session.spans.now l.session.came.now l.joined l.position l.rooms
