use Rattle.aud_session_facts.proofs.MarkLemmas.{all-added}
use Rattle.aud_session_facts.proofs.marks.turn_marks.Goals as goal

pub returns : goal.returns
returns c =
    all-added c.args.logs.now c.args.pid.now c.loop-node.node-index c.nodes_of-nodes.result.now c.loop-node.marks.items c.nodes_of-nodes.ensures c.loop-node-test.false c.loop-node.invariant
