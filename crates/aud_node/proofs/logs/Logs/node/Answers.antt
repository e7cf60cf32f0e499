use Rattle.std.proofs.Common.{ap, ◌∙◌, map, Some, None, slice_get}
use Rattle.aud_node.specs.NodeTaps.{node_at, node_tap}
use Rattle.aud_base.proofs.Lists.{got}
use Rattle.aud_node.proofs.NodeLemmas.{flat, node_at-kept}
use Rattle.aud_node.proofs.logs.Logs.node.Goals as goal

pub returns-in-Some : goal.returns-in-Some
returns-in-Some c =
    let l = c.self.inside in
    c.as_ref.ensures.value
    ∙ ap flat (got c.deref.result.now c.args.place (Some c.in-Some.node) c.in-Some.ensures.lookup.3 ∙ ap (λ ns. slice_get ns c.args.place) c.deref.ensures.value)
    ∙ node_at-kept l.taps.now l.nodes.items c.args.place (c.self.invariant.nodes_are ∙ ap (λ s. map (node_tap s) l.taps.now) c.self.invariant.stream_is)
    ∙ ap (λ cl. node_at cl c.args.place) c.self.view_is

pub returns-in-None : goal.returns-in-None
returns-in-None c =
    let l = c.self.inside in
    ap flat (got c.deref.result.now c.args.place None c.in-None.ensures.lookup.3 ∙ ap (λ ns. slice_get ns c.args.place) c.deref.ensures.value)
    ∙ node_at-kept l.taps.now l.nodes.items c.args.place (c.self.invariant.nodes_are ∙ ap (λ s. map (node_tap s) l.taps.now) c.self.invariant.stream_is)
    ∙ ap (λ cl. node_at cl c.args.place) c.self.view_is
