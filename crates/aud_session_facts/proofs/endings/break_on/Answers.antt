use Rattle.std.proofs.Common.{◌≡◌, arith}
use Rattle.aud_node.specs.Cluster.{node_log}
use Rattle.aud_node.specs.OwnRecords.{own_numbers}
use Rattle.aud_session_facts.proofs.Ends.{none-on}
use Rattle.aud_session_facts.proofs.endings.break_on.Goals as goal

pub returns : goal.returns
returns c =
    let own : c.own-own-items.result.now ≡ own_numbers (node_log c.args.logs.now c.args.node) c.args.pid.now = grind (arith, c.own-own-items.ensures, c.in-Some.ensures, c.node.ensures) in
    none-on c.args.logs.now c.args.node c.args.pid.now c.args.number c.loop-own.own-index c.own-own-items.result.now own c.loop-own-test.false c.loop-own.invariant
