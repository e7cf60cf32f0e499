use Rattle.std.proofs.Common.{◌≡◌, ◌<◌, ◌+◌, ◌∷◌, ◌++◌, [], true, length, map, take, slice_get, refl, sym, ap, ◌∙◌, arith, Some, None}
use Rattle.std.specs.Option.{option_and_then, option_to_list}
use Rattle.std.proofs.lemmas.Option.{slice_get_read}
use Rattle.std.proofs.lemmas.List.{map-append, take_more}
use Rattle.aud_node.specs.NodeTaps.{node_tap}
use Rattle.aud_node.specs.Private.TapsOfNodes.{is_node, is_some_node, node_in}
use Rattle.aud_node.proofs.NodePlaces.{next_is, next_not, no_node}
use Rattle.aud_node.proofs.logs.at_their_places.Goals as goal
use Rattle.aud_node.proofs.logs.at_their_places.Goals.{then-is_node+in-Some+in_ok-push, else-is_node+in_ok-push-2}

pub unreachable-requires : goal.unreachable-requires
unreachable-requires c =
    let taps = c.args.all.now.taps.now in
    let place = c.loop-place.place in
    let here : is_some_node (slice_get taps place) ≡ true =
    ap is_some_node (slice_get_read taps (length taps) place c.index-all-place.result refl c.loop-place-test.true c.index-all-place.is) ∙ ap is_node c.index-all-place.is
    ∙ sym c.is_node.ensures ∙ c.if-is_node.true in
    let some : 0 < length c.loop-place.logs.rest.items =
    grind (arith, c.loop-place.invariant.logs ∙ ap (map (node_in c.args.all.now.stream taps)) (next_is taps place c.loop-place-test.true here)) in
    grind (arith, some, c.next.ensures.variant, c.in_default.is)

pub loop-place-preserved : goal.loop-place-preserved
loop-place-preserved c =
    let taps = c.args.all.now.taps.now in
    let stream = c.args.all.now.stream in
    let place = c.loop-place.place in
    let tap = c.index-all-place.result in
    let within = c.loop-place-test.true in
    let read : slice_get taps place ≡ Some tap = slice_get_read taps (length taps) place tap refl within c.index-all-place.is in
    let here : is_some_node (slice_get taps place) ≡ c.is_node.result = ap is_some_node read ∙ ap is_node c.index-all-place.is ∙ sym c.is_node.ensures in
    let at = node_in stream taps in
    let more : take (place + 1) taps ≡ take place taps ++ tap ∷ [] =
    take_more taps place tap within ∙ ap (λ t. take place taps ++ t ∷ []) (sym c.index-all-place.is) in
    let taken : map (node_tap stream) (take place taps) ++ node_tap stream tap ∷ [] ≡ map (node_tap stream) (take (place + 1) taps) =
    sym (ap (map (node_tap stream)) more ∙ map-append (node_tap stream) (take place taps) (tap ∷ [])) in
    elim c.if-is_node.branch [
      | then-is_node+in-Some+in_ok-push w ↦
          let next = c.loop-place.invariant.logs ∙ ap (map at) (next_is taps place within (here ∙ w.if-is_node.true)) in
          let both : w.in-Some.log ∷ w.next.new.self.rest.items ≡ c.loop-place.logs.rest.items =
          ap (λ o. option_to_list o ++ w.next.new.self.rest.items) (sym w.in-Some.is) ∙ sym w.next.ensures.items in
          let log : w.in-Some.log ≡ node_tap stream tap = grind (arith, both ∙ next, ap (option_and_then (node_tap stream)) read) in
          record {
            nodes = ap (λ v. v.items) w.nodes-is ∙ w.in_ok-push.ensures.items ∙ (λ k. c.loop-place.invariant.nodes k ++ log k ∷ []) ∙ taken;
            logs = grind (arith, both ∙ next, w.logs-is);
          }
      | else-is_node+in_ok-push-2 w ↦
          let next = c.loop-place.invariant.logs ∙ ap (map at) (next_not taps place within (here ∙ w.if-is_node.false)) in
          let none : None ≡ node_tap stream tap = sym (no_node stream tap (ap is_node c.index-all-place.is ∙ sym c.is_node.ensures ∙ w.if-is_node.false)) in
          record {
            nodes = ap (λ v. v.items) w.nodes-is ∙ w.in_ok-push-2.ensures.items ∙ (λ k. c.loop-place.invariant.nodes k ++ none k ∷ []) ∙ taken;
            logs = grind (arith, next, w.logs-is);
          }
    ]
