use Rattle.std.proofs.Common.{◌≡◌, ◌-◌, ℕ, List, filter, length, max, min, sym, ap, subst, ◌∙◌, arith}
use Rattle.std.specs.List.Sorted.{IsNonDecreasing}
use Rattle.aud_node.specs.Stream.{Text, entry, positions_after}
use Rattle.aud_rooms.specs.Private.Candidates.{is_by, is_past_upto}
use Rattle.aud_rooms.proofs.Ascending.{non_decreasing}
use Rattle.aud_rooms.proofs.Candidate.{of_one}
use Rattle.aud_rooms.proofs.candidates.of_span.Goals as goal

pub past_upto-requires : goal.past_upto-requires
past_upto-requires c =
    let stream = c.args.stream.now in
    subst IsNonDecreasing (sym c.of_room-positions.ensures) (non_decreasing (λ p. is_by c.args.by (entry stream p) c.args.nsp.now c.as_str.result.now) 1 (length stream))

pub returns : goal.returns
returns c =
    let stream = c.args.stream.now in
    let nsp = c.args.nsp.now in
    let span = c.args.span.now in
    let birth = c.args.within.after in
    let high = c.args.within.last in
    let room : c.as_str.result.now ≡ span.room = grind (arith, c.as_str.ensures.value, c.span.view_is) in
    let after : c.max-after.result ≡ max birth (span.first - 1) = grind (arith, c.max-after.ensures, c.saturating_sub.ensures, c.span.view_is) in
    let upto : c.min-upto.result ≡ min high span.last = grind (arith, c.min-upto.ensures, c.span.view_is) in
    let of : Text → List ℕ = λ r. filter (λ p. is_by c.args.by (entry stream p) nsp r) (positions_after 0 (length stream)) in
    c.past_upto.ensures
    ∙ ap (filter (is_past_upto c.max-after.result c.min-upto.result)) (c.of_room-positions.ensures ∙ ap of room)
    ∙ ap (λ a. filter (is_past_upto a c.min-upto.result) (of span.room)) after
    ∙ ap (λ u. filter (is_past_upto (max birth (span.first - 1)) u) (of span.room)) upto
    ∙ of_one stream nsp birth high c.args.by span
