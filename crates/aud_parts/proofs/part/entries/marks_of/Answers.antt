use Rattle.aud_parts.proofs.MarkLemmas.{marked-more}
use Rattle.aud_parts.proofs.part.entries.marks_of.Goals as goal

pub loop-position-preserved : goal.loop-position-preserved
loop-position-preserved c =
    marked-more c.args.count c.loop-position.position-index c.args.positions.now c.loop-position.marks.items c.mark.new.marks.items
    c.loop-position-test.true c.loop-position.invariant c.mark.ensures
