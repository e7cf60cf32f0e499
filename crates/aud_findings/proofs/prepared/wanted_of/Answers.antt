use Rattle.aud_findings.proofs.Read.{wanted_more}
use Rattle.aud_findings.proofs.prepared.wanted_of.Goals as goal

pub loop-place-preserved : goal.loop-place-preserved
loop-place-preserved c =
    wanted_more c.args.count c.loop-place.place-index c.args.places.now c.loop-place.wanted.items c.mark.new.wanted.items
    c.loop-place-test.true c.loop-place.invariant c.mark.ensures
