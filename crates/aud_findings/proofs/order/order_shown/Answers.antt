use Rattle.std.proofs.Common.{◌∙◌, ap, slice_get, subst, sym}
use Rattle.aud_node.specs.Cluster.{Cluster}
use Rattle.aud_node.specs.OwnPlaces.{own_places}
use Rattle.aud_session_facts.specs.NodeRows.{node_rows}
use Rattle.aud_findings.specs.ShowsOrder.{AreOutOfOrder}
use Rattle.aud_findings.proofs.Nodes.{none_unordered, first_unordered_is}
use Rattle.aud_findings.proofs.order.order_shown.Goals as goal

pub returns-in-Some-clause-shown : goal.returns-in-Some-clause-shown
returns-in-Some-clause-shown c =
    let here = c.args.sheet.now.recording.now in
    let pid = c.args.pid.now in
    let found = c.in_ok-found.found.items in
    record {
      at = c.in-Some.at;
      is_unordered =
          first_unordered_is here (own_places here pid) found c.in-Some.at
          (subst (λ (k : Cluster). AreOutOfOrder k (own_places k pid) found) c.logs.ensures c.in_ok-found.ensures)
          (sym (c.in-Some.ensures ∙ c.first.ensures.value ∙ ap (λ places. slice_get places 0) c.deref.ensures.value));
      are_its_rows =
          c.in_ok-node_rows-in-Some.ensures.rows
          ∙ ap (node_rows here c.args.sheet.now.lines.now) (c.deref-in-Some.ensures.value ∙ c.in_ok-records-in-Some.ensures);
    }

pub returns-clause-shown : goal.returns-clause-shown
returns-clause-shown c =
    let here = c.args.sheet.now.recording.now in
    let pid = c.args.pid.now in
    let found = c.in_ok-found.found.items in
    none_unordered here (own_places here pid) found
    (subst (λ (k : Cluster). AreOutOfOrder k (own_places k pid) found) c.logs.ensures c.in_ok-found.ensures)
    (sym (c.in-None.ensures ∙ c.first.ensures.value ∙ ap (λ places. slice_get places 0) c.deref.ensures.value))
