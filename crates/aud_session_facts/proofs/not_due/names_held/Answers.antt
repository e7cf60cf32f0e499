use Rattle.std.proofs.Common.{arith}
use Rattle.std.specs.FinSet as set
use Rattle.aud_rooms.specs.Spans.{rooms_by_spans}
use Rattle.aud_session_facts.proofs.RoomsHeld.{found_some}
use Rattle.aud_session_facts.proofs.not_due.names_held.Goals as goal

pub returns-else-is_empty : goal.returns-else-is_empty
returns-else-is_empty c =
    grind (arith, c.is_some.ensures, c.as_slice-rooms.ensures, c.if-is_empty.false, c.is_empty.ensures, found_some (λ room. room.now) c.first_held.result (set.contains (rooms_by_spans c.args.spans.now c.args.position)) c.as_slice-rooms.result.now c.first_held.ensures)
