use Rattle.std.proofs.Common.{◌≡◌, arith}
use Rattle.aud_node.specs.Cluster.{node_log}
use Rattle.aud_node.specs.OwnRecords.{own_numbers}
use Rattle.aud_session_facts.proofs.MarkLemmas.{marks-added}
use Rattle.aud_session_facts.proofs.marks.add_marks.Goals as goal

pub returns : goal.returns
returns c =
    let own : c.own-number-items.result.now ≡ own_numbers (node_log c.args.logs.now c.args.node) c.args.pid.now = grind (arith, c.own-number-items.ensures, c.in-Some.ensures, c.node.ensures) in
    marks-added c.args.logs.now c.args.pid.now c.args.node c.loop-number.number-index c.own-number-items.result.now c.loop-number.marks.items c.args.marks.now.items own c.loop-number-test.false c.loop-number.invariant
