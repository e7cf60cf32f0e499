use Rattle.std.proofs.Common.{◌≡◌, ℕ, ◌++◌, ap, ◌∙◌, arith, flat_map, length, map, option_to_list, rules, sym}
use Rattle.std.specs.Option.{option_and_then}
use Rattle.aud_node.specs.Cluster.{Cluster}
use Rattle.aud_node.specs.Lists.{numbers_from}
use Rattle.aud_explanation.specs.declared.turn.TurnShown.{TurnShown}
use Rattle.aud_findings.specs.InOrder.{in_order}
use Rattle.aud_findings.specs.ShownTurn.{ShownTurn, span_shown, turn_seen}
use Rattle.aud_findings.proofs.OrderLemmas.{in_order-from_sort_by_key, map-in_order}
use Rattle.aud_findings.specs.MarkedTurns.{greatest_turn, mark_shown, mark_span}
use Rattle.aud_session_facts.proofs.Steps.{given-more}
use Rattle.aud_findings.proofs.timeline.marks.turns_of_marks.Goals as goal

pub loop-number-preserved : goal.loop-number-preserved
loop-number-preserved c =
    let cluster = c.args.sheet.now.recording.now in
    let lines = c.args.sheet.now.lines.now in
    let marks = c.args.marks.now in
    let number = c.loop-number.number in
    let before = map turn_seen c.loop-number.shown.items in
    let at = λ (number : ℕ). option_to_list (mark_shown cluster lines (greatest_turn marks) marks number) in
    c.in_ok-push_span.ensures
    ∙ ap (λ span. before ++ option_to_list (option_and_then (span_shown cluster lines) span)) c.mark_span.ensures
    ∙ ap (λ (k : Cluster). before ++ option_to_list (option_and_then (span_shown cluster lines) (mark_span k c.greatest_turn-greatest.result marks number))) c.logs-logs.ensures
    ∙ ap (λ greatest. before ++ option_to_list (mark_shown cluster lines greatest marks number)) c.greatest_turn-greatest.ensures
    ∙ ap (λ turns. turns ++ at number) c.loop-number.invariant
    ∙ sym (given-more at number)

pub returns : goal.returns
returns c =
    let marks = c.args.marks.now in
    let shown = c.loop-number.shown.items in
    let all : c.loop-number.number ≡ length marks = omega arith in
    ap (map turn_seen) (in_order-from_sort_by_key (λ (t : TurnShown). t.turn) shown c.sort_by_key.new.self.items c.in_ok-sort_by_key.ensures.sorted c.sort_by_key.ensures.stable (λ a r q k. search rules))
    ∙ map-in_order turn_seen (λ (t : ShownTurn). t.turn) shown
    ∙ ap (in_order (λ (t : ShownTurn). t.turn)) (c.loop-number.invariant ∙ ap (λ n. flat_map (λ number. option_to_list (mark_shown c.args.sheet.now.recording.now c.args.sheet.now.lines.now (greatest_turn marks) marks number)) (numbers_from 0 n)) all)
