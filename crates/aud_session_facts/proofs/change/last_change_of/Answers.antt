use Rattle.std.proofs.Common.{◌≡◌, ℕ, Some, slice_get, sym, ◌∙◌, ap}
use Rattle.std.specs.Option.{option_or}
use Rattle.aud_base.proofs.Lists.{got}
use Rattle.aud_cert.specs.Certificate.{turn_at}
use Rattle.aud_rooms.specs.Turns.{Turn}
use Rattle.aud_session_facts.specs.Changes.{turn_before}
use Rattle.aud_session_facts.proofs.Told.{change_told}
use Rattle.aud_session_facts.proofs.change.last_change_of.Goals as goal

pub returns : goal.returns
returns c =
    let turns = c.args.turns.now in
    let turn = c.in-Some.turn.now in
    let at : slice_get turns c.args.reach.turn ≡ Some turn = sym (got turns c.args.reach.turn (Some c.in-Some.turn) c.in-Some.ensures.lookup.3) in
    let number = c.args.reach.number in
    let place = c.place.inside in
    let turn_is : (let there : Turn = record { node = place.node; from = place.from; to = place.to } in there) ≡ turn_at c.args.logs.now turn = c.place.view_is ∙ c.turn_place-place.ensures in
    let cut : Turn = record { node = place.node; from = place.from; to = c.min.result } in
    let cut_is : cut ≡ turn_before (turn_at c.args.logs.now turn) number =
    ap (λ (to : ℕ). (let there : Turn = record { node = place.node; from = place.from; to = to } in there)) c.min.ensures
    ∙ ap (λ (t : Turn). turn_before t number) turn_is in
    c.or.ensures
    ∙ (λ i. option_or (c.last_change_in.ensures i) (c.last_change_over.ensures i))
    ∙ change_told c.args.logs.now c.args.pid.now c.args.room.now turns c.split_at.result.0.now c.args.reach turn cut at cut_is c.split_at.ensures.front
