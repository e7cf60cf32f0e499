use Rattle.std.proofs.Common.{◌≡◌}
use Rattle.aud_schedule.proofs.emits.some_attachments.Given as goal

abbrev pub invariant-loop : goal.invariant-loop
invariant-loop l = l.course.size ≡ l.fn.course.size
