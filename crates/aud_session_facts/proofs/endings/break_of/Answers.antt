use Rattle.std.proofs.Common.{◌∙◌, sym}
use Rattle.std.proofs.lemmas.List.{take_all}
use Rattle.std.proofs.lemmas.List.Elements.{All-same}
use Rattle.aud_session_facts.specs.Private.Unended.{HasNoBreakOn}
use Rattle.aud_session_facts.proofs.Ends.{none-at}
use Rattle.aud_session_facts.proofs.endings.break_of.Goals as goal

pub returns : goal.returns
returns c =
    none-at c.args.logs.now c.args.pid.now c.args.number
    (All-same (λ node. HasNoBreakOn c.args.logs.now node c.args.pid.now c.args.number) _ _
    (sym c.requires ∙ sym (take_all c.loop-node.node-index c.args.nodes.now c.loop-node-test.false)) c.loop-node.invariant)
