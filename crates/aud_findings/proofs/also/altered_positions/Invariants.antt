use Rattle.std.proofs.Common.{◌≡◌, ◌++◌, drop, map}
use Rattle.aud_findings.specs.Also.{altered_positions}
use Rattle.aud_findings.proofs.also.altered_positions.Given as goal

-- those of the frames so far, and of those to come, are those of all
abbrev pub invariant-loop-frame : goal.invariant-loop-frame
invariant-loop-frame l =
    l.found.items ++ altered_positions l.stream (map (λ frame. frame.now) (drop l.frame-index l.frames))
    ≡ altered_positions l.stream (map (λ frame. frame.now) l.frames)
