use Rattle.std.proofs.Common.{◌≡◌, ◌+◌, ◌-◌, ◌≤◌, length, drop}
use Rattle.aud_check.specs.Difference.{agreed}
use Rattle.aud_check.proofs.difference.agreed_len.Given as goal

abbrev pub invariant-loop-i : goal.invariant-loop-i
invariant-loop-i l =
    (l.i ≤ length l.received) × (l.i ≤ length l.due) × (agreed l.received l.due ≡ l.i + agreed (drop l.i l.received) (drop l.i l.due))

abbrev pub decreases-loop-i : goal.decreases-loop-i
decreases-loop-i l = length l.received - l.i
