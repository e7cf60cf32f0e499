use Rattle.std.proofs.Common.{List, map, sym, subst, ◌∙◌}
use Rattle.std.specs.List.{All}
use Rattle.aud_rooms.specs.Turns.{Who, Turn, slice_of}
use Rattle.aud_rooms.specs.TurnPlaces.{IsInOrder}
use Rattle.aud_rooms.specs.TurnsDue.{greatest_high}
use Rattle.aud_rooms.specs.Spans.{AreSpansOfTurns, first_low, rooms_by_turns}
use Rattle.aud_check.specs.Shown.{slices_at}
use Rattle.aud_check.proofs.AcceptedTurns.{all_accepted, all_in_order}
use Rattle.aud_check.proofs.spans.are_spans.Goals as goal

pub spans_of_turns-requires : goal.spans_of_turns-requires
spans_of_turns-requires c =
    let C = c.args.logs.now in
    let turns = c.args.turns.now in
    let pid = c.args.session.now.pid in
    subst (All (IsInOrder C)) (sym (c.as_slice.ensures.value ∙ c.in_ok-places.ensures))
    (all_in_order C pid 0 turns c.requires.over (all_accepted C pid turns c.requires.accepted))

pub returns : goal.returns
returns c =
    let C = c.args.logs.now in
    let turns = c.args.turns.now in
    let who = c.args.session.now in
    let seen : Who = record { pid = c.session.inside.pid.now; sid = c.session.inside.sid.now; nsp = c.session.inside.nsp.now } in
    let built = c.in_ok-built.built.items in
    let placed = subst (λ (ts : List Turn). AreSpansOfTurns C.stream seen (map (slice_of C) ts) built) (c.as_slice.ensures.value ∙ c.in_ok-places.ensures) (c.in_ok-built.ensures seen.nsp) in
    let are = subst (λ (w : Who). AreSpansOfTurns C.stream w (slices_at C turns) built) c.session.view_is placed in (
      (λ e. subst (AreSpansOfTurns C.stream who (slices_at C turns)) (sym c.as_slice-2.ensures.value ∙ c.are_same.ensures.0 e) are),
      (λ others. c.are_same.ensures.1 (c.as_slice-2.ensures.value
          ∙ c.spans_are_unique.ensures (rooms_by_turns C.stream who (slices_at C turns)) (first_low (slices_at C turns)) (greatest_high (slices_at C turns)) built c.args.spans.now are others)),
    )
