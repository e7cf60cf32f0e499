use Rattle.std.proofs.Common.{[], append-nil}
use Rattle.std.proofs.lemmas.List.{drop_all}
use Rattle.aud_reader.proofs.bundle.own_records.own_records.Goals as goal

pub returns : goal.returns
returns c = rw append-nil at (c.loop-line.invariant [] (rw (drop_all c.loop-line.line-index c.args.lines.now c.loop-line-test.false) tt))
