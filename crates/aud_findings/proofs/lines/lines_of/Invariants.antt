use Rattle.std.proofs.Common.{◌≡◌, ◌++◌, drop, map}
use Rattle.aud_findings.specs.Also.{frame_lines, lines_of}
use Rattle.aud_findings.proofs.lines.lines_of.Given as goal

-- the lines so far, and those of the frames to come, are those of all
abbrev pub invariant-loop-number : goal.invariant-loop-number
invariant-loop-number l =
    l.lines.items
    ++ frame_lines l.by l.sheet.recording.now l.sheet.lines.now l.tap.place l.numbers l.position l.number (map (λ frame. frame.now) (drop l.number l.frames))
    ≡ lines_of l.by l.sheet.recording.now l.sheet.lines.now l.tap.place l.numbers (map (λ frame. frame.now) l.frames) l.position
