use Rattle.std.proofs.Common.{◌∙◌, ap}
use Rattle.aud_base.specs.Places.{places_of}
use Rattle.aud_parts.specs.Private.PartPlaces.{first_or_none}
use Rattle.aud_parts.proofs.PartLemmas.{place-noted}
use Rattle.aud_parts.proofs.listing.by_part.places_by_first.Goals as goal

pub loop-number-preserved : goal.loop-number-preserved
loop-number-preserved c = λ pid.
    place-noted _ c.args.parts.now c.loop-number.number c.index-parts-number.result pid c.first_pid.result.now (places_of c.loop-number.index pid) (places_of c.note.new.self pid)
    c.loop-number-test.true c.index-parts-number.is (c.first_pid.ensures ∙ ap first_or_none c.deref.ensures.value) (c.loop-number.invariant pid) (c.in_ok-note.ensures.places pid)
