use Rattle.std.proofs.Common.{ap, sym, ◌∙◌, option_map, Some}
use Rattle.aud_node.specs.Lists.{between}
use Rattle.aud_node.specs.NodeTap.{NodeTap}
use Rattle.aud_node.specs.TurnRecords.{turn_records}
use Rattle.aud_node.specs.declared.turns.TurnRange.{TurnRange}
use Rattle.aud_node.proofs.TurnLemmas.{turn_of-kept}
use Rattle.aud_node.proofs.node_log.NodeLog.turn_of.Goals as goal

pub returns-in-Some : goal.returns-in-Some
returns-in-Some c =
    let l = c.self.inside in
    let span = c.in-Some.span in
    let recs = ap (λ (log : NodeTap). log.recs) c.self.view_is in
    ap Some (c.between.ensures ∙ ap (λ rs. between rs span.from span.to) (c.recs.ensures ∙ sym recs))
    ∙ ap (option_map (λ (s : TurnRange). between l.recs.now s.from s.to)) c.in-Some.ensures
    ∙ turn_of-kept l.recs.now l.turns c.args.pid.now c.args.turn c.self.invariant.turns_are
    ∙ ap (λ rs. turn_records rs c.args.pid.now c.args.turn) recs
