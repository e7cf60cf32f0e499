use Rattle.std.proofs.Common.{◌≡◌, false, slice_get}
use Rattle.std.specs.Option.{option_map_or}
use Rattle.aud_base.specs.Places.{places_of, places_where}
use Rattle.aud_node.specs.Stream.{Text}
use Rattle.aud_explain_app.specs.Chosen.{is_of}
use Rattle.aud_explain_app.proofs.chosen.index_of.Given as goal

abbrev pub invariant-loop-number : goal.invariant-loop-number
invariant-loop-number l = (q : Text) → places_of l.index q ≡ places_where (λ k. option_map_or (is_of q) (slice_get l.sessions k) false) l.number
