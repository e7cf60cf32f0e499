use Rattle.std.proofs.Common.{◌≡◌, map, take}
use Rattle.aud_findings.specs.Also.{also_seen, lines_of, range_also}
use Rattle.aud_findings.proofs.lines.told.Given as goal

-- the ranges so far
abbrev pub invariant-loop-range : goal.invariant-loop-range
invariant-loop-range l =
    map also_seen l.ranges.items
    ≡ map (range_also (lines_of l.by l.sheet.recording.now l.sheet.lines.now l.tap.place l.numbers (map (λ frame. frame.now) l.frames))) (take l.range-index l.range-items)
