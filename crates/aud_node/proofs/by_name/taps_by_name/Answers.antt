use Rattle.std.proofs.Common.{◌≡◌, false, length, slice_get, ap, ◌∙◌, arith}
use Rattle.std.specs.Option.{option_map_or}
use Rattle.std.specs.Str.{bytes_eq}
use Rattle.aud_tap.specs.declared.taps.Tap.{Tap}
use Rattle.aud_base.specs.Places.{noted, places_of, places_where}
use Rattle.aud_node.specs.Stream.{Text}
use Rattle.aud_base.proofs.NotedPlaces.{noted-at}
use Rattle.aud_node.proofs.NameLemmas.{first-place}
use Rattle.aud_node.proofs.by_name.taps_by_name.Goals as goal

pub loop-place-preserved : goal.loop-place-preserved
loop-place-preserved c = λ q.
    noted-at (λ o. option_map_or (λ (tap : Tap). bytes_eq tap.name q) o false) c.args.taps.now c.loop-place.place c.index-taps-place.result
    (places_of c.loop-place.places q) (places_of c.note.new.self q) (omega arith) c.index-taps-place.is (c.loop-place.invariant q)
    (c.in_ok-note.ensures.places q ∙ ap (λ (t : Text). noted c.loop-place.place (bytes_eq t q) (places_of c.loop-place.places q)) c.as_str.ensures)

pub returns : goal.returns
returns c = λ q.
    let taps = c.args.taps.now in
    let all : c.loop-place.place ≡ length taps = omega arith in
    let test = λ (o : _). option_map_or (λ (tap : Tap). bytes_eq tap.name q) o false in
    ap (λ ns. slice_get ns 0) (c.loop-place.invariant q ∙ ap (places_where (λ place. test (slice_get taps place))) all)
    ∙ first-place (λ (tap : Tap). bytes_eq tap.name q) (λ place. test (slice_get taps place)) taps (λ k tap at. ap test at)
