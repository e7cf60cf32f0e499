use Rattle.std.proofs.Common.{◌≡◌, ◌++◌, ◌∷◌, [], ap, ◌∙◌, length, slice_get, arith}
use Rattle.aud_client.specs.Seen.{packet_seen, placed_seen}
use Rattle.aud_client.specs.Stays.{namespace}
use Rattle.aud_client.specs.Private.Kept.{empty_stay, grown, no_places, grown_places}
use Rattle.aud_base.proofs.Lists.{after_these}
use Rattle.aud_client.proofs.Kept.{changed_last}
use Rattle.aud_client.proofs.stays.Stays.begin.Goals as goal

pub returns-clause-stays : goal.returns-clause-stays
returns-clause-stays c =
    let p = packet_seen c.args.placed.packet in
    let t = empty_stay c.args.c (namespace p) in
    changed_last c.grow.result c.args.self.now.stays.items c.open_stay.new.self.stays.items c.grow.new.self.stays.items c.len-place.result
    t (grown c.args.stream.now t p) (omega arith) c.in_ok-open_stay.ensures.stays (c.grow.ensures.stays t)

pub returns-clause-places : goal.returns-clause-places
returns-clause-places c = λ as_many.
    let stays = c.args.self.now.stays.items in
    let place = c.len-place.result in
    let s = empty_stay c.args.c (namespace (packet_seen c.args.placed.packet)) in
    let t = no_places c.args.placed.number in
    let at : place ≡ length stays = omega arith in
    let there = ap (λ ss. slice_get ss place) c.in_ok-open_stay.ensures.stays ∙ ap (slice_get (stays ++ s ∷ [])) at ∙ after_these stays [] s in
    changed_last c.grow.result c.args.self.now.places.items c.open_stay.new.self.places.items c.grow.new.self.places.items place
    t (grown_places c.args.stream.now t (placed_seen c.args.placed)) (omega (arith, as_many)) c.in_ok-open_stay.ensures.places (c.grow.ensures.places s t there)
