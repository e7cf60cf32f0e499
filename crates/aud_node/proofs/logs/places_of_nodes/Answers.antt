use Rattle.std.proofs.Common.{◌≡◌, ◌++◌, ◌∷◌, [], ℕ, cond, length, slice_get, refl, sym, ap, ◌∙◌, arith}
use Rattle.std.proofs.lemmas.Option.{slice_get_read}
use Rattle.aud_base.proofs.Numbers.{filter-more}
use Rattle.aud_node.specs.Private.TapsOfNodes.{is_some_node}
use Rattle.aud_node.proofs.logs.places_of_nodes.Goals as goal
use Rattle.aud_node.proofs.logs.places_of_nodes.Goals.{then-is_node+in_ok-push, else-is_node}

pub loop-place-preserved : goal.loop-place-preserved
loop-place-preserved c =
    let taps = c.args.taps.now in
    let place = c.loop-place.place in
    let kept = c.loop-place.places.items in
    let here : is_some_node (slice_get taps place) ≡ c.is_node.result =
    ap is_some_node (slice_get_read taps (length taps) place c.index-taps-place.result refl c.loop-place-test.true c.index-taps-place.is) ∙ sym c.is_node.ensures in
    let is : c.if-is_node.places.items ≡ cond (is_some_node (slice_get taps place)) (kept ++ place ∷ []) kept =
    elim c.if-is_node.branch [
      | then-is_node+in_ok-push w ↦ grind (arith, w.places-is, w.in_ok-push.ensures.items, here, w.if-is_node.true)
      | else-is_node w ↦ grind (arith, w.places-is, here, w.if-is_node.false)
    ] in
    is ∙ filter-more (λ (at : ℕ). is_some_node (slice_get taps at)) place kept c.loop-place.invariant
