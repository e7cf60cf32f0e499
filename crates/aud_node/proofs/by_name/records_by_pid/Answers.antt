use Rattle.std.proofs.Common.{ap, ◌∙◌, [], arith}
use Rattle.std.specs.Option.{option_to_list}
use Rattle.aud_base.specs.FirstTexts.{with_texts}
use Rattle.aud_base.specs.Places.{places_of}
use Rattle.aud_base.proofs.FirstTexts.{with_texts-item}
use Rattle.aud_base.proofs.NotedPlaces.{noted-at}
use Rattle.aud_node.specs.OwnRecords.{record_names}
use Rattle.aud_node.specs.TurnRecords.{pid_of}
use Rattle.aud_node.proofs.by_name.records_by_pid.Goals as goal

pub loop-number-preserved : goal.loop-number-preserved
loop-number-preserved c =
    let l = c.loop-number in
    let recs = c.args.recs.now in
    let rec = c.index.result.now in
    record {
      numbers = λ q.
          noted-at (λ o. record_names o q) recs l.number rec
          (places_of l.numbers q) (places_of c.note_record.new.places q) (omega arith) c.index.ensures (l.invariant.numbers q) (c.in_ok-note_record.ensures.places q);
      pids = c.in_ok-note_record.ensures.pids ∙ ap (λ ts. with_texts ts (option_to_list (pid_of rec))) l.invariant.pids ∙ with_texts-item recs l.number rec (omega arith) c.index.ensures pid_of [];
    }
