use Rattle.std.proofs.Common.{◌∙◌, ap, rules}
use Rattle.std.proofs.lemmas.List.{take_all}
use Rattle.std.proofs.lemmas.Result.{IfOk-weaker}
use Rattle.aud_findings.specs.ClientEvents.{events_of_stays, first_line}
use Rattle.aud_findings.specs.InOrder.{in_order}
use Rattle.aud_findings.specs.Runs.{joined_events}
use Rattle.aud_findings.proofs.OrderLemmas.{in_order-from_sort_by_key}
use Rattle.aud_findings.proofs.timeline.events.client_events.Goals as goal

pub returns : goal.returns
returns c =
    let s = c.args.sheet.now in
    let sorted = in_order-from_sort_by_key first_line c.loop-number.events.items c.sort_by_key.new.self.items c.in_ok-sort_by_key.ensures.sorted c.sort_by_key.ensures.stable (λ a r q k. search rules) in
    let all = take_all c.loop-number.number-index c.args.numbers.now c.loop-number-test.false in
    let found = c.loop-number.invariant ∙ ap (events_of_stays s.recording.now s.lines.now c.args.tap.now.place c.args.pid.now) all in
    IfOk-weaker c.joined_events.result _ _ (λ every h. h ∙ ap joined_events (c.as_slice.ensures.value ∙ sorted ∙ ap (in_order first_line) found)) c.joined_events.ensures
