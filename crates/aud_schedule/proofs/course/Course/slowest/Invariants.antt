use Rattle.aud_schedule.specs.Size.{IsUpTo}
use Rattle.aud_schedule.proofs.course.Course.slowest.Given as goal

abbrev pub invariant-loop-index : goal.invariant-loop-index
invariant-loop-index l = IsUpTo l.self.size.nodes l.slowest
