use Rattle.std.proofs.Common.{◌≡◌, [], slice_get, take}
use Rattle.std.specs.List.{flat_map}
use Rattle.std.specs.Option.{option_flatten}
use Rattle.aud_base.specs.FirstTexts.{with_texts}
use Rattle.aud_base.specs.Places.{places_of, places_where, texts_of}
use Rattle.aud_node.specs.Stream.{Text}
use Rattle.aud_node.specs.Private.NodePids.{log_names, log_pids}
use Rattle.aud_node.proofs.by_name.nodes_by_pid.Given as goal

abbrev pub invariant-loop-place : goal.invariant-loop-place
invariant-loop-place l = record {
  places : (q : Text) → places_of l.places q ≡ places_where (λ place. log_names q (option_flatten (slice_get l.logs place))) l.place;
  pids : texts_of l.places ≡ with_texts [] (flat_map log_pids (take l.place l.logs));
}
