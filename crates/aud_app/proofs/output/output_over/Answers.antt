use Rattle.std.proofs.Common.{◌≡◌, sym, ap, subst}
use Rattle.aud_input.specs.Input.{InputSeen}
use Rattle.aud_node.specs.Cluster.{cluster_of}
use Rattle.aud_app.specs.Orders.{IsOrdering}
use Rattle.aud_app.specs.Output.{IsOutputOn}
use Rattle.aud_app.proofs.output.output_over.Goals as goal

pub returns-in_ok-ordered-in-Order-clause-output : goal.returns-in_ok-ordered-in-Order-clause-output
returns-in_ok-ordered-in-Order-clause-output g c =
    let taps = c.args.input.now.taps in
    let same : c.input.inside.taps ≡ taps = ap (λ (i : InputSeen). i.taps) c.input.view_is in
    let here = subst (λ k. IsOrdering (cluster_of k) c.in_ok-ordered-in-Order.field-0) same c.in_ok-ordered-in-Order.ensures in
    let shown = subst (IsOrdering (cluster_of taps)) (sym c.of-in-Order.ensures) here in
    subst (λ mode. IsOutputOn mode c.args.options.whole (cluster_of taps) c.args.input.now.certificates c.of-in-Order.result) (sym c.in-Order.is) shown
