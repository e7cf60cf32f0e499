use Rattle.std.proofs.Common.{◌∙◌, sym}
use Rattle.aud_base.specs.Places.{places_of}
use Rattle.aud_parts.specs.ReportLines.{pids_of}
use Rattle.aud_parts.proofs.PartLemmas.{part-of-places, find-here, find-nowhere}
use Rattle.aud_parts.proofs.listing.by_part.part_of.Goals as goal

pub returns-then-has_pids : goal.returns-then-has_pids
returns-then-has_pids c =
    find-here _ c.of-part-items.result.now c.loop-part.part-index _ c.loop-part-test.true (sym c.has_pids.ensures ∙ c.if-has_pids.true) c.loop-part.invariant
    (part-of-places _ (pids_of c.args.lines.now) _ _ (places_of c.args.index.now) c.requires c.first_told.ensures c.of-part-items.ensures)

pub returns : goal.returns
returns c =
    find-nowhere _ c.of-part-items.result.now c.loop-part.part-index _ c.loop-part-test.false c.loop-part.invariant
    (part-of-places _ (pids_of c.args.lines.now) _ _ (places_of c.args.index.now) c.requires c.first_told.ensures c.of-part-items.ensures)
