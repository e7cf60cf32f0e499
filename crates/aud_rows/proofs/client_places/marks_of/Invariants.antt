use Rattle.std.proofs.Common.{◌≡◌, filter, slice_get}
use Rattle.aud_base.specs.Lists.{numbers_from}
use Rattle.aud_rows.specs.Marks.{is_mark}
use Rattle.aud_rows.proofs.client_places.marks_of.Given as goal

abbrev pub invariant-loop-number : goal.invariant-loop-number
invariant-loop-number l = l.marks.items ≡ filter (λ number. is_mark (slice_get l.recs number)) (numbers_from 0 l.number)
