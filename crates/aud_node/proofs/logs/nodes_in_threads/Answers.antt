use Rattle.std.proofs.Common.{◌≡◌, ℕ, map, ap, ◌∙◌, subst}
use Rattle.aud_node.specs.Private.TapsOfNodes.{node_in}
use Rattle.aud_node.proofs.Mapped.{mapped}
use Rattle.aud_node.proofs.logs.nodes_in_threads.Goals as goal

pub at_their_places-requires : goal.at_their_places-requires
at_their_places-requires g c =
    let taps = c.args.all.now.taps.now in
    let at = λ (place : ℕ). node_in c.args.all.now.stream taps place in
    mapped at _ (λ place node call. subst (λ p. node ≡ at p) call.shows call.says.met) _ _ c.in_ok-logs.ensures
    ∙ ap (map at) (c.as_slice.ensures.value ∙ c.in_ok-places.ensures)
