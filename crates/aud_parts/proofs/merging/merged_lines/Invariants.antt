use Rattle.std.proofs.Common.{◌≡◌, ◌++◌, drop, length}
use Rattle.aud_parts.specs.Merged.{merged_lines}
use Rattle.aud_parts.specs.Private.Slots.{all_in, left_in}
use Rattle.aud_parts.proofs.merging.merged_lines.Given as goal

-- the lines so far, and those of the sessions that are left, are all
abbrev pub invariant-loop-session : goal.invariant-loop-session
invariant-loop-session l = record {
  counts : length l.next.items ≡ length l.slots;
  lines : l.merged.items ++ merged_lines (left_in l.slots l.next.items) (drop l.session-index l.sessions) ≡ merged_lines (all_in l.slots) l.sessions;
}
