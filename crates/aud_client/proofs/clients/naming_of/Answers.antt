use Rattle.std.proofs.Common.{ap, ◌∙◌, arith}
use Rattle.std.specs.Option.{option_and_then}
use Rattle.aud_base.specs.Places.{noted, places_of}
use Rattle.aud_base.proofs.NotedPlaces.{noted-at}
use Rattle.aud_client.specs.Private.Clients.{has_naming_stay}
use Rattle.aud_client.proofs.clients.naming_of.Goals as goal

pub loop-place-preserved : goal.loop-place-preserved
loop-place-preserved c = λ q.
    let kept = places_of c.loop-place.naming q in
    noted-at (λ o. has_naming_stay q (option_and_then (λ transcript. transcript) o)) c.args.transcripts.now c.loop-place.place c.index-transcripts-place.result kept (places_of c.note_transcript.new.naming q)
    (omega arith) c.index-transcripts-place.is (c.loop-place.invariant q)
    (c.in_ok-note_transcript.ensures q ∙ ap (λ o. noted c.loop-place.place (has_naming_stay q o) kept) c.as_ref.ensures.value)
