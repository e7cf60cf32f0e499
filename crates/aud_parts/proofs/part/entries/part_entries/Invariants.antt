use Rattle.std.proofs.Common.{◌≡◌, take}
use Rattle.aud_parts.specs.PartTaps.{stays_event, placed_left}
use Rattle.aud_parts.specs.Private.OwnRecords.{has, is_for}
use Rattle.aud_parts.proofs.part.entries.part_entries.Given as goal

-- what is left of the entries so far
abbrev pub invariant-loop-number : goal.invariant-loop-number
invariant-loop-number l = l.left ≡ placed_left (stays_event (is_for (has l.audience.namespaces) (has l.audience.rooms)) l.came) 1 (take l.number l.stream)
