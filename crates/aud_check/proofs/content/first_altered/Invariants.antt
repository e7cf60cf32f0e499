use Rattle.std.proofs.Common.{map, take}
use Rattle.aud_check.specs.Frames.{AreEntries}
use Rattle.aud_check.proofs.content.first_altered.Given as goal

abbrev pub invariant-loop-number : goal.invariant-loop-number
invariant-loop-number l = AreEntries l.stream (take l.number (map (λ frame. frame.now) l.frames))
