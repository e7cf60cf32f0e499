use Rattle.std.proofs.Common.{subst}
use Rattle.aud_node.specs.Private.OffsetIndex.{HoldsOffsets}
use Rattle.aud_node.proofs.RankLemmas.{ranks-first}
use Rattle.aud_node.proofs.offsets.Offsets.distinct.Goals as goal

pub returns-in-Ascending : goal.returns-in-Ascending
returns-in-Ascending c = λ stream held distinct.
    ranks-first stream c.in-Ascending.field-0.items (subst (HoldsOffsets stream) c.in-Ascending.is held)
