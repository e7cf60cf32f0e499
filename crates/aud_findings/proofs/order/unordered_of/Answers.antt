use Rattle.std.proofs.Common.{◌≡◌, ◌++◌, ◌∷◌, [], ℕ, append-nil, get_or, ap, sym, ◌∙◌, subst}
use Rattle.std.proofs.lemmas.List.{take_all}
use Rattle.aud_findings.specs.ShowsOrder.{AreOutOfOrder, places_in}
use Rattle.aud_findings.proofs.Nodes.{none_yet, out_of_order_more}
use Rattle.aud_findings.proofs.order.unordered_of.Goals.{in-Some+in_ok-push, in_default}
use Rattle.aud_findings.proofs.order.unordered_of.Goals as goal

pub loop-node-init : goal.loop-node-init
loop-node-init c = none_yet c.args.logs.now c.new-found.result.items c.new-found.ensures.items

pub loop-node-preserved : goal.loop-node-preserved
loop-node-preserved c =
    let nodes = c.nodes_of-node-items.result.now in
    let before = c.loop-node.found.items in
    let node : ℕ = get_or nodes c.loop-node.node-index 0 in
    let more : c.match-unordered_at.found.items ≡ before ++ places_in (node ∷ []) (c.unordered_at.result ∷ []) = elim c.match-unordered_at.branch [
      | in-Some+in_ok-push w ↦ ap (λ v. v.items) w.found-is ∙ w.in_ok-push.ensures.items ∙ ap (λ o. before ++ places_in (node ∷ []) (o ∷ [])) (sym w.in-Some.is)
      | in_default w ↦ ap (λ v. v.items) w.found-is ∙ sym (append-nil before) ∙ ap (λ o. before ++ places_in (node ∷ []) (o ∷ [])) (sym w.in_default.is)
    ] in
    out_of_order_more c.args.logs.now nodes c.loop-node.node-index _ before c.match-unordered_at.found.items
    c.loop-node-test.true c.unordered_at.ensures more c.loop-node.invariant

pub returns : goal.returns
returns c =
    let nodes = c.nodes_of-node-items.result.now in
    subst (λ nodes. AreOutOfOrder c.args.logs.now nodes c.loop-node.found.items)
    (take_all c.loop-node.node-index nodes c.loop-node-test.false ∙ c.nodes_of-node-items.ensures) c.loop-node.invariant
