use Rattle.std.proofs.Common.{sym, subst, length, slice_get}
use Rattle.std.specs.List.Sorted.{IsNonDecreasing}
use Rattle.aud_rooms.proofs.Ascending.{non_decreasing}
use Rattle.aud_rows.specs.Marks.{is_mark}
use Rattle.aud_rows.proofs.ends.lost_past.Goals as goal

pub first_past-requires : goal.first_past-requires
first_past-requires c = subst IsNonDecreasing (sym c.requires) (non_decreasing (λ number. is_mark (slice_get c.args.recs.now number)) 0 (length c.args.recs.now))
