use Rattle.std.proofs.Common.{◌≡◌, ◌++◌, [], take, drop}
use Rattle.aud_client.specs.Private.ConnectionRead.{HasRead, inside}
use Rattle.aud_client.proofs.connection.Reader.read_all.Given as goal

abbrev pub invariant-loop-i : goal.invariant-loop-i
invariant-loop-i l = record {
  inside_is : inside l.recs ≡ take l.i l.recs ++ inside (drop l.i l.recs);
  read : HasRead l.first [] l.fn.self → HasRead l.first (take l.i l.recs) l.self;
}
