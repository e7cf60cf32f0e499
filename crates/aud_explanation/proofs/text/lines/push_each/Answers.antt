use Rattle.std.proofs.Common.{string_bytes}
use Rattle.aud_explanation.proofs.Each.{each-more}
use Rattle.aud_explanation.proofs.text.lines.push_each.Goals as goal

pub loop-one-preserved : goal.loop-one-preserved
loop-one-preserved g c =
    each-more (g.T.Lines.lines_of c.args.page) (string_bytes c.loop-one.out) (string_bytes c.push.new.out) (string_bytes c.args.out.now) c.args.list.now c.loop-one.one-index c.one-item.result c.loop-one-test.true c.one-item.is c.loop-one.invariant c.in_ok-push.ensures
