use Rattle.std.proofs.Common.{◌≡◌, [], length}
use Rattle.aud_schedule.specs.Private.Grown.{Grown}
use Rattle.aud_schedule.proofs.scheduling.fill.Given as goal

abbrev pub invariant-loop-place : goal.invariant-loop-place
invariant-loop-place l = record {
  size : l.course.size ≡ l.fn.course.size;
  length : length l.acts.items ≡ l.place;
  grown : Grown l.fn.course.size l.place [] l.fn.acts.items l.acts.items;
}
