use Rattle.std.proofs.Common.{◌≡◌, take}
use Rattle.aud_check.proofs.parting.first_parting.Given as goal

abbrev pub invariant-loop-i : goal.invariant-loop-i
invariant-loop-i l = take l.i l.one ≡ take l.i l.other
