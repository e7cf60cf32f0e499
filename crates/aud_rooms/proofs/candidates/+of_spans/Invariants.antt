use Rattle.std.proofs.Common.{length}
use Rattle.aud_rooms.proofs.candidates.+of_spans.Given as goal

abbrev pub decreases-of_spans : goal.decreases-of_spans
decreases-of_spans l = length l.spans.now
