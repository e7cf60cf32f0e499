use Rattle.std.proofs.Common.{◌≡◌, false, slice_get}
use Rattle.std.specs.Option.{option_map_or}
use Rattle.aud_base.specs.Places.{places_of, places_where}
use Rattle.aud_node.specs.Stream.{Text}
use Rattle.aud_explain_app.specs.Alike.{is_at}
use Rattle.aud_explain_app.proofs.alike.by_record.Given as goal

abbrev pub invariant-loop-number : goal.invariant-loop-number
invariant-loop-number l = (spot : Text) → places_of l.index spot ≡ places_where (λ k. option_map_or (λ s. is_at l.recording spot s.now) (slice_get l.sessions k) false) l.number
