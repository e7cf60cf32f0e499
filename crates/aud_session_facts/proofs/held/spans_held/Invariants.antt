use Rattle.std.proofs.Common.{◌≡◌, take, map, Some}
use Rattle.aud_cert.specs.Certificate.{turn_at}
use Rattle.aud_rooms.specs.Assigned.{starting}
use Rattle.aud_session_facts.specs.Held.{walked_turns}
use Rattle.aud_session_facts.proofs.held.spans_held.Given as goal

abbrev pub invariant-loop-turn : goal.invariant-loop-turn
invariant-loop-turn l =
    l.builder ≡ Some (walked_turns l.logs l.pid (map (turn_at l.logs) (take l.turn-index l.turns)) (starting l.sid l.after))
