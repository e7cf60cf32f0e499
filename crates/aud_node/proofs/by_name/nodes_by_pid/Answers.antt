use Rattle.std.proofs.Common.{ap, ◌∙◌, [], arith}
use Rattle.std.specs.Option.{option_flatten}
use Rattle.aud_base.specs.FirstTexts.{with_texts}
use Rattle.aud_base.specs.Places.{noted, places_of, texts_of}
use Rattle.aud_base.proofs.FirstTexts.{with_texts-more}
use Rattle.aud_base.proofs.NotedPlaces.{noted-at}
use Rattle.aud_node.specs.Private.NodePids.{log_names, log_pids}
use Rattle.aud_node.proofs.by_name.nodes_by_pid.Goals as goal

pub loop-place-preserved : goal.loop-place-preserved
loop-place-preserved c =
    let l = c.loop-place in
    let logs = c.args.logs.now in
    let log = c.index-logs-place.result in
    record {
      places = λ q.
          noted-at (λ o. log_names q (option_flatten o)) logs l.place log
          (places_of l.places q) (places_of c.note_node.new.places q) (omega arith) c.index-logs-place.is (l.invariant.places q)
          (c.in_ok-note_node.ensures.places q ∙ ap (λ o. noted l.place (log_names q o) (places_of l.places q)) c.as_ref.ensures.value);
      pids =
          c.in_ok-note_node.ensures.pids ∙ ap (λ o. with_texts (texts_of l.places) (log_pids o)) c.as_ref.ensures.value
          ∙ ap (λ ts. with_texts ts (log_pids log)) l.invariant.pids ∙ with_texts-more logs l.place log (omega arith) c.index-logs-place.is log_pids [];
    }
