use Rattle.std.proofs.Common.{◌≡◌, length, map, ap, ◌∙◌, subst, option_map}
use Rattle.std.specs.Option.{option_and_then}
use Rattle.std.proofs.lemmas.Result.{IfOk-weaker}
use Rattle.aud_base.specs.Lists.{numbers_from}
use Rattle.aud_node.specs.NodeTaps.{client_recs}
use Rattle.aud_client.specs.Received.{transcript_at, transcript_of}
use Rattle.aud_node.proofs.Mapped.{mapped}
use Rattle.aud_client.proofs.AtPlaces.{at_all_places}
use Rattle.aud_client.proofs.clients.transcripts_of.Goals as goal

pub returns : goal.returns
returns g c =
    let cluster = c.args.logs.now in
    let told = transcript_at cluster in
    IfOk-weaker c.try_map.result _ _ (λ v h.
    mapped told _ (λ place transcript call. subst (λ p. transcript ≡ told p) call.shows call.says.met) _ _ h
    ∙ ap (map told) (c.as_slice.ensures.value ∙ c.in_ok-places.ensures ∙ ap (λ taps. numbers_from 0 (length taps)) c.taps.ensures)
    ∙ at_all_places (λ o. option_map (transcript_of cluster.stream) (option_and_then client_recs o)) cluster.taps) c.try_map.ensures
