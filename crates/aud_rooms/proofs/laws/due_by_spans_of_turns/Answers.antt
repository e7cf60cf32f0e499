use Rattle.aud_rooms.proofs.ByTurns.{due_by_spans-turns}
use Rattle.aud_rooms.proofs.laws.due_by_spans_of_turns.Goals as goal

pub returns : goal.returns
returns c = due_by_spans-turns
