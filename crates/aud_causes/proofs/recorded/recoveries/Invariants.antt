use Rattle.std.proofs.Common.{◌≡◌, filter, map, slice_get}
use Rattle.aud_base.specs.Lists.{numbers_from}
use Rattle.aud_causes.specs.Facts.{is_recovery}
use Rattle.aud_causes.proofs.recorded.recoveries.Given as goal

-- those of the stays so far
abbrev pub invariant-loop-number : goal.invariant-loop-number
invariant-loop-number l = l.came.items ≡ filter (λ number. is_recovery (slice_get (map (λ stay. stay.now) l.stays) number)) (numbers_from 0 l.number)
