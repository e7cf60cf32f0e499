use Rattle.std.proofs.Common.{◌≡◌, ◌++◌, take, drop}
use Rattle.aud_client.specs.Private.ConnectionRead.{inside}
use Rattle.aud_client.proofs.told.inside.Given as goal

abbrev pub invariant-loop-i : goal.invariant-loop-i
invariant-loop-i l = inside l.recs ≡ take l.i l.recs ++ inside (drop l.i l.recs)
