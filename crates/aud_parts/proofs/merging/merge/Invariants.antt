use Rattle.std.proofs.Common.{◌≡◌, None, replicate}
use Rattle.aud_parts.proofs.merging.merge.Given as goal

-- so many parts without a report
abbrev pub invariant-loop-part : goal.invariant-loop-part
invariant-loop-part l = l.slots.items ≡ replicate l._part None
