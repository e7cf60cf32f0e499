use Rattle.std.proofs.Common.{◌≡◌, ◌+◌, ◌∷◌, ◌++◌, map, flat_map, drop, sym, ap, ◌∙◌, arith}
use Rattle.std.proofs.lemmas.List.{drop_more, take_rest}
use Rattle.std.specs.Option.{option_or}
use Rattle.aud_client.specs.Private.ClientRead.{cut_seen, begun, bad_of}
use Rattle.aud_client.specs.Received.{stays_of}
use Rattle.aud_client.specs.StayPlaces.{places_in}
use Rattle.aud_client.proofs.ClientLemmas.{HasTold-none, HasTold-more, HasTold-all, HasTold-as_many}
use Rattle.aud_client.proofs.told.told_by.Goals as goal

pub loop-number-init : goal.loop-number-init
loop-number-init c = HasTold-none c.args.stream.now c.args.recs.now c.new.result.stays.items c.new.result.places.items c.new.ensures.stays c.new.ensures.places

pub loop-number-preserved : goal.loop-number-preserved
loop-number-preserved c =
    let stream = c.args.stream.now in
    let recs = c.args.recs.now in
    let i = c.loop-number.number in
    let rec = c.index-recs-number.result in
    let old = c.loop-number.told in
    let new = c.take.new.self in
    let front : drop i recs ≡ rec ∷ drop (i + 1) recs = drop_more recs i rec (omega arith) ∙ ap (λ r. r ∷ drop (i + 1) recs) (sym c.index-recs-number.is) in
    let after = take_rest recs (i + 1) in
    HasTold-more stream recs i rec old.stays.stays.items new.stays.stays.items old.stays.places.items new.stays.places.items old.bad new.bad front
    (c.in_ok-take.ensures.stays ∙ ap (λ b. old.stays.stays.items ++ flat_map (stays_of stream) (map cut_seen (begun i rec b))) after)
    (c.in_ok-take.ensures.places ∙ ap (λ b. old.stays.places.items ++ flat_map (places_in stream) (map cut_seen (begun i rec b))) after)
    (c.in_ok-take.ensures.bad ∙ ap (λ b. option_or old.bad (bad_of (begun i rec b))) after)
    c.loop-number.invariant

pub returns-clause-stays : goal.returns-clause-stays
returns-clause-stays c =
    (HasTold-all c.args.stream.now c.args.recs.now c.loop-number.number c.loop-number.told.stays.stays.items c.loop-number.told.stays.places.items c.loop-number.told.bad (omega arith) c.loop-number.invariant).0

pub returns-clause-bad : goal.returns-clause-bad
returns-clause-bad c =
    (HasTold-all c.args.stream.now c.args.recs.now c.loop-number.number c.loop-number.told.stays.stays.items c.loop-number.told.stays.places.items c.loop-number.told.bad (omega arith) c.loop-number.invariant).2

pub returns-clause-places : goal.returns-clause-places
returns-clause-places c =
    (HasTold-all c.args.stream.now c.args.recs.now c.loop-number.number c.loop-number.told.stays.stays.items c.loop-number.told.stays.places.items c.loop-number.told.bad (omega arith) c.loop-number.invariant).1

pub take-requires-clause-as_many : goal.take-requires-clause-as_many
take-requires-clause-as_many c =
    let old = c.loop-number.told in
    HasTold-as_many c.args.stream.now c.args.recs.now c.loop-number.number old.stays.stays.items old.stays.places.items old.bad c.loop-number.invariant
