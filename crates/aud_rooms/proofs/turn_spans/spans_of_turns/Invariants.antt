use Rattle.std.proofs.Common.{◌≡◌, take, map, Some}
use Rattle.aud_rooms.specs.Turns.{slice_of}
use Rattle.aud_rooms.specs.Spans.{first_low}
use Rattle.aud_rooms.specs.Assigned.{starting}
use Rattle.aud_rooms.specs.Private.Walk.{walked_turns}
use Rattle.aud_rooms.proofs.turn_spans.spans_of_turns.Given as goal

abbrev pub invariant-loop-turn : goal.invariant-loop-turn
invariant-loop-turn l =
    l.builder ≡ Some (walked_turns l.logs l.pid (take l.turn-index l.turns) (starting l.sid (first_low (map (slice_of l.logs) l.turns))))
