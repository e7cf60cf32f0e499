use Rattle.std.proofs.Common.{◌∙◌, Some, ap, slice_get}
use Rattle.aud_base.proofs.Lists.{got}
use Rattle.aud_findings.proofs.Nodes.{order_told}
use Rattle.aud_findings.proofs.order.unordered_at.Goals as goal

pub returns-in-Some-Order : goal.returns-in-Some-Order
returns-in-Some-Order c =
    order_told c.args.logs.now c.args.prepared.now c.args.node c.in-Some-Order.field-0.now c.in-Some-Order.unordered c.requires
    (got c.deref.result.now c.args.node (Some c.in-Some-Order.field-0) c.in-Some-Order.ensures.lookup.3 ∙ ap (λ taps. slice_get taps c.args.node) c.deref.ensures.value) c.in-Some-Order.field-0-is
