use Rattle.aud_rooms.proofs.Unique.{unique}
use Rattle.aud_rooms.proofs.laws.spans_are_unique.Goals as goal

pub returns : goal.returns
returns c = unique
