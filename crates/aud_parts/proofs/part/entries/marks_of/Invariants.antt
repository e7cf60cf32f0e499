use Rattle.std.proofs.Common.{take}
use Rattle.aud_parts.specs.Private.Marks.{AreMarked}
use Rattle.aud_parts.proofs.part.entries.marks_of.Given as goal

-- the positions so far are marked
abbrev pub invariant-loop-position : goal.invariant-loop-position
invariant-loop-position l = AreMarked l.count (take l.position-index l.positions) l.marks.items
