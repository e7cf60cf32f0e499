use Rattle.std.proofs.Common.{[], append-nil}
use Rattle.std.proofs.lemmas.List.{drop_all}
use Rattle.aud_client.proofs.ahead.known_in.Goals as goal

pub returns : goal.returns
returns c = rw append-nil at (c.loop-i.invariant [] (rw (drop_all c.loop-i.i c.args.recs.now c.loop-i-test.false) tt))
