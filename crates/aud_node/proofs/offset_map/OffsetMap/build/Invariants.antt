use Rattle.aud_node.proofs.PositionLemmas.{HoldsAfter}
use Rattle.aud_node.proofs.offset_map.OffsetMap.build.Given as goal

abbrev pub invariant-loop-i : goal.invariant-loop-i
invariant-loop-i l = HoldsAfter l.entries l.i l.offsets
