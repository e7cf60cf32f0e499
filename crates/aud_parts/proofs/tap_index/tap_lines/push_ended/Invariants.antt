use Rattle.std.proofs.Common.{◌≡◌, ◌++◌, take}
use Rattle.std.specs.List.{flat_map}
use Rattle.aud_parts.specs.TapRuns.{ended}
use Rattle.aud_parts.proofs.tap_index.tap_lines.push_ended.Given as goal

-- the lines so far
abbrev pub invariant-loop-line : goal.invariant-loop-line
invariant-loop-line l = l.bytes.items ≡ l.initial.bytes.items ++ flat_map ended (take l.line-index l.lines)
