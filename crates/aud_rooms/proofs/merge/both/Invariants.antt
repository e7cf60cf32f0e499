use Rattle.std.proofs.Common.{◌≡◌, ◌++◌, drop}
use Rattle.aud_rooms.proofs.Merged.{merge}
use Rattle.aud_rooms.proofs.merge.both.Given as goal

abbrev pub invariant-loop-number : goal.invariant-loop-number
invariant-loop-number l = l.all.items ++ merge (drop l.number-index l.one) l.rest ≡ merge l.one l.other
