use Rattle.std.proofs.Common.{◌≡◌, ◌++◌, drop}
use Rattle.aud_rooms.proofs.Merged.{remove}
use Rattle.aud_rooms.proofs.merge.left_of.Given as goal

abbrev pub invariant-loop-number : goal.invariant-loop-number
invariant-loop-number l = l.left.items ++ remove (drop l.number-index l.other) l.rest ≡ remove l.other l.one
