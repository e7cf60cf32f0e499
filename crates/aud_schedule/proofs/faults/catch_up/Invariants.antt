use Rattle.std.proofs.Common.{◌≡◌, []}
use Rattle.aud_schedule.specs.Private.Grown.{Grown}
use Rattle.aud_schedule.proofs.faults.catch_up.Given as goal

abbrev pub invariant-loop-taken : goal.invariant-loop-taken
invariant-loop-taken l = record {
  size : l.course.size ≡ l.fn.course.size;
  grown : Grown l.fn.course.size l.taken [] l.fn.acts.items l.acts.items;
}
