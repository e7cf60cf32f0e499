use Rattle.std.proofs.Common.{sym, ◌∙◌}
use Rattle.std.proofs.lemmas.List.{take_all}
use Rattle.std.proofs.lemmas.List.Elements.{All-same}
use Rattle.aud_node.specs.Cluster.{node_log}
use Rattle.aud_maker.specs.Private.Begun.{BeginsUpTo}
use Rattle.aud_maker.proofs.BegunLemmas.{nodes-upto}
use Rattle.aud_maker.proofs.begun.last_begun.Goals as goal

pub returns : goal.returns
returns c =
    nodes-upto c.args.logs.now c.args.pid.now c.loop-node.last
    (All-same (λ node. BeginsUpTo (node_log c.args.logs.now node) c.args.pid.now c.loop-node.last) _ _
    (sym c.requires ∙ sym (take_all c.loop-node.node-index c.args.nodes.now c.loop-node-test.false)) c.loop-node.invariant)
