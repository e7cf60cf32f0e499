use Rattle.std.proofs.Common.{◌++◌, ◌∙◌, ap, sym}
use Rattle.aud_session_facts.specs.Recoveries.{recoveries_at}
use Rattle.aud_session_facts.proofs.Steps.{given-more}
use Rattle.aud_session_facts.proofs.asked.recoveries.Goals as goal

pub loop-place-preserved : goal.loop-place-preserved
loop-place-preserved c =
    let at = recoveries_at c.args.recording.now in
    let place = c.loop-place.place in
    c.in_ok-push_client.ensures ∙ ap (λ found. found ++ at place) c.loop-place.invariant ∙ sym (given-more at place)
