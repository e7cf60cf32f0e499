use Rattle.std.proofs.Common.{◌≡◌, ◌++◌}
use Rattle.std.specs.List.{filter_map}
use Rattle.aud_base.specs.Lists.{numbers_from}
use Rattle.aud_parts.specs.Private.Slots.{missing_if}
use Rattle.aud_parts.proofs.merging.push_missing.Given as goal

-- those of the parts so far that have no report
abbrev pub invariant-loop-part : goal.invariant-loop-part
invariant-loop-part l = l.faults.items ≡ l.fn.faults.items ++ filter_map (missing_if l.slots) (numbers_from 0 l.part)
