use Rattle.std.proofs.Common.{◌∙◌, ap, sym, arith, bytes_eq}
use Rattle.std.proofs.lemmas.Option.{get_or_from_slice_get}
use Rattle.aud_base.specs.FirstTexts.{with_text}
use Rattle.aud_base.specs.Places.{places_of, texts_of}
use Rattle.aud_base.proofs.FirstTexts.{with_texts-one}
use Rattle.aud_base.proofs.NotedPlaces.{noted-item}
use Rattle.aud_node.proofs.by_name.note_pids.Goals as goal

pub loop-number-preserved : goal.loop-number-preserved
loop-number-preserved c =
    let l = c.loop-number in
    let pids = texts_of c.args.pids.now in
    let pid = c.text.result.now in
    let read = sym (get_or_from_slice_get pids l.number pid pid c.text.ensures) in
    record {
      places = λ q.
          noted-item c.args.place (λ t. bytes_eq t q) pids l.number pid (places_of c.args.places.now q) (places_of l.places q) (places_of c.note.new.self q)
          (omega arith) read (l.invariant.places q) (c.in_ok-note.ensures.places q);
      pids = c.in_ok-note.ensures.texts ∙ ap (λ ts. with_text ts pid) l.invariant.pids ∙ with_texts-one (texts_of c.args.places.now) pids l.number pid (omega arith) read;
    }
