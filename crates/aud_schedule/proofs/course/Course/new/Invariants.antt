use Rattle.std.proofs.Common.{◌≡◌, vec_len}
use Rattle.aud_schedule.proofs.course.Course.new.Given as goal

abbrev pub invariant-loop : goal.invariant-loop
invariant-loop l = vec_len l.cursors ≡ l.counter
