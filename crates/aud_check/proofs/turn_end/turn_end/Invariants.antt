use Rattle.std.proofs.Common.{◌≡◌, drop}
use Rattle.aud_rooms.specs.Turns.{slice_of}
use Rattle.aud_check.specs.TurnRefusals.{end_of}
use Rattle.aud_check.proofs.OwnEnd.{own_end}
use Rattle.aud_check.proofs.turn_end.turn_end.Given as goal

abbrev pub invariant-loop-number : goal.invariant-loop-number
invariant-loop-number l =
    end_of l.pid l.turn (slice_of l.logs l.place).recs ≡ own_end l.pid l.turn l.recs l.last (drop l.number-index l.number-items)
