use Rattle.std.proofs.Common.{◌≡◌, false, slice_get}
use Rattle.std.specs.Option.{option_map_or}
use Rattle.aud_base.specs.Places.{places_of, places_where}
use Rattle.aud_node.specs.Stream.{Text}
use Rattle.aud_client.specs.Received.{stay_names_pid}
use Rattle.aud_client.proofs.by_session.by_session.Given as goal

abbrev pub invariant-loop-number : goal.invariant-loop-number
invariant-loop-number l = (q : Text) → places_of l.kept q ≡ places_where (λ k. option_map_or (stay_names_pid q) (slice_get l.stays k) false) l.number
