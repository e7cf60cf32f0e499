use Rattle.std.proofs.Common.{◌≡◌, [], length, map, replicate, take, None}
use Rattle.std.specs.List.{filter_map}
use Rattle.aud_base.specs.Lists.{numbers_from}
use Rattle.aud_parts.specs.Merged.{fault_of}
use Rattle.aud_parts.specs.Private.Slots.{slots_of}
use Rattle.aud_parts.proofs.merging.gather.Given as goal

-- what the reports so far give
abbrev pub invariant-loop-number : goal.invariant-loop-number
invariant-loop-number l = record {
  slots : l.fn.slots.items ≡ replicate (length l.parts) None → l.slots.items ≡ slots_of (map (λ part. part.items) l.parts) (take l.number l.reports);
  faults : l.fn.slots.items ≡ replicate (length l.parts) None → l.fn.faults.items ≡ []
      → l.faults.items ≡ filter_map (fault_of (map (λ part. part.items) l.parts) l.reports) (numbers_from 0 l.number);
}
