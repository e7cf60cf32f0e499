use Rattle.std.proofs.Common.{◌≡◌, false, slice_get}
use Rattle.std.specs.Option.{option_map_or}
use Rattle.aud_base.specs.Places.{places_of, places_where}
use Rattle.aud_node.specs.Stream.{Text}
use Rattle.aud_explain_app.specs.Asked.{is_for}
use Rattle.aud_explain_app.proofs.asked.numbers_by_session.Given as goal

abbrev pub invariant-loop-number : goal.invariant-loop-number
invariant-loop-number l = (q : Text) → places_of l.numbers q ≡ places_where (λ k. option_map_or (is_for l.recording q) (slice_get l.all k) false) l.number
