use Rattle.std.proofs.Common.{◌≡◌, take, bytes_eq}
use Rattle.std.specs.List.{list_any}
use Rattle.aud_base.specs.FirstTexts.{with_texts}
use Rattle.aud_base.specs.Places.{noted, places_of, texts_of}
use Rattle.aud_node.specs.Stream.{Text}
use Rattle.aud_node.proofs.by_name.note_pids.Given as goal

abbrev pub invariant-loop-number : goal.invariant-loop-number
invariant-loop-number l = record {
  places : (q : Text) → places_of l.places q ≡ noted l.place (list_any (λ pid. bytes_eq pid q) (take l.number (texts_of l.pids))) (places_of l.fn.places q);
  pids : texts_of l.places ≡ with_texts (texts_of l.fn.places) (take l.number (texts_of l.pids));
}
