use Rattle.std.proofs.Common.{take}
use Rattle.aud_findings.specs.ShowsOrder.{AreOutOfOrder}
use Rattle.aud_findings.proofs.order.unordered_of.Given as goal

-- those of the nodes so far
abbrev pub invariant-loop-node : goal.invariant-loop-node
invariant-loop-node l = AreOutOfOrder l.logs (take l.node-index l.node-items) l.found.items
