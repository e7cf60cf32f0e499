use Rattle.std.proofs.Common.{map, ap, subst, sym, ◌∙◌}
use Rattle.std.proofs.lemmas.List.{take_all}
use Rattle.aud_node.specs.OwnPlaces.{own_places}
use Rattle.aud_session_facts.specs.declared.place.RecordPlace.{RecordPlace}
use Rattle.aud_findings.specs.ShowsOrder.{AreOutOfOrder}
use Rattle.aud_explain_app.specs.Alike.{taps_of}
use Rattle.aud_explain_app.proofs.Sharing.{nodes_unordered}
use Rattle.aud_explain_app.proofs.alike.taps_of.Goals as goal

pub returns-after-loop-at : goal.returns-after-loop-at
returns-after-loop-at c =
    let recording = c.args.recording.now in
    let pid = c.args.pid.now in
    let found = subst (λ logs. AreOutOfOrder logs (own_places logs pid) c.in_ok-found-in-Order.found.items) c.logs.ensures c.in_ok-found-in-Order.ensures in
    let all = take_all c.loop-at.at-index c.deref-at-items.result.now c.loop-at-test.false ∙ c.deref-at-items.ensures.value ∙ found.are_found in
    c.loop-at.invariant
    ∙ ap (map (λ (at : RecordPlace). at.node)) all
    ∙ nodes_unordered recording (own_places recording pid) found.firsts found.are_read
    ∙ sym (ap (taps_of recording pid) c.in-Order.is)
