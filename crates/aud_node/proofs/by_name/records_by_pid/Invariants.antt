use Rattle.std.proofs.Common.{◌≡◌, [], slice_get, take}
use Rattle.std.specs.List.{filter_map}
use Rattle.aud_base.specs.FirstTexts.{with_texts}
use Rattle.aud_base.specs.Places.{places_of, places_where, texts_of}
use Rattle.aud_node.specs.Stream.{Text}
use Rattle.aud_node.specs.OwnRecords.{record_names}
use Rattle.aud_node.specs.TurnRecords.{pid_of}
use Rattle.aud_node.proofs.by_name.records_by_pid.Given as goal

abbrev pub invariant-loop-number : goal.invariant-loop-number
invariant-loop-number l = record {
  numbers : (q : Text) → places_of l.numbers q ≡ places_where (λ number. record_names (slice_get l.recs number) q) l.number;
  pids : texts_of l.numbers ≡ with_texts [] (filter_map pid_of (take l.number l.recs));
}
