use Rattle.std.proofs.Common.{◌≡◌, false, slice_get}
use Rattle.std.specs.Option.{option_map_or}
use Rattle.std.specs.Str.{bytes_eq}
use Rattle.aud_tap.specs.declared.taps.Tap.{Tap}
use Rattle.aud_base.specs.Places.{places_of, places_where}
use Rattle.aud_node.specs.Stream.{Text}
use Rattle.aud_node.proofs.by_name.taps_by_name.Given as goal

abbrev pub invariant-loop-place : goal.invariant-loop-place
invariant-loop-place l = (q : Text) → places_of l.places q ≡ places_where (λ place. option_map_or (λ (tap : Tap). bytes_eq tap.name q) (slice_get l.taps place) false) l.place
