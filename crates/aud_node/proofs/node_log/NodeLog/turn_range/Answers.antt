use Rattle.std.proofs.Common.{◌≡◌, ◌<◌, ◌≤◌, length, List, ap, sym, ◌∙◌, subst, option_map, Some}
use Rattle.aud_tap.specs.declared.records.NodeRec.{NodeRec}
use Rattle.aud_node.specs.Lists.{between}
use Rattle.aud_node.specs.NodeTap.{NodeTap}
use Rattle.aud_node.specs.TurnRecords.{turn_records, turn_range}
use Rattle.aud_node.specs.Private.TurnIndex.{range_numbers}
use Rattle.aud_node.specs.declared.turns.TurnRange.{TurnRange}
use Rattle.aud_node.proofs.TurnLemmas.{turn_of-kept, turn_range-within, IsWithin}
use Rattle.aud_node.proofs.node_log.NodeLog.turn_range.Goals as goal

pub returns-in-Some-clause-records : goal.returns-in-Some-clause-records
returns-in-Some-clause-records c =
    let l = c.self.inside in
    let span = c.in-Some.span in
    let recs = ap (λ (log : NodeTap). log.recs) c.self.view_is in
    ap (λ rs. Some (between rs span.from span.to)) (sym recs)
    ∙ ap (option_map (λ (s : TurnRange). between l.recs.now s.from s.to)) c.in-Some.ensures
    ∙ turn_of-kept l.recs.now l.turns c.args.pid.now c.args.turn c.self.invariant.turns_are
    ∙ ap (λ rs. turn_records rs c.args.pid.now c.args.turn) recs

pub returns-in-Some-clause-within : goal.returns-in-Some-clause-within
returns-in-Some-clause-within c =
    let l = c.self.inside in
    let recs = ap (λ (log : NodeTap). log.recs) c.self.view_is in
    let range : turn_range l.recs.now c.args.pid.now c.args.turn ≡ Some (c.in-Some.span.from, c.in-Some.span.to) =
    sym (ap (option_map range_numbers) c.in-Some.ensures ∙ c.self.invariant.turns_are c.args.pid.now c.args.turn) in
    let within = subst (IsWithin (length l.recs.now)) range (turn_range-within l.recs.now c.args.pid.now c.args.turn) in
    subst (λ (rs : List NodeRec). (c.in-Some.span.from < c.in-Some.span.to) × (c.in-Some.span.to ≤ length rs)) recs within
