use Rattle.std.proofs.Common.{take}
use Rattle.aud_node.specs.Private.OffsetIndex.{HoldsRanks}
use Rattle.aud_node.proofs.offsets.ranks_of.Given as goal

abbrev pub invariant-loop-i : goal.invariant-loop-i
invariant-loop-i l = HoldsRanks (take l.i l.entries) l.ranks.items
