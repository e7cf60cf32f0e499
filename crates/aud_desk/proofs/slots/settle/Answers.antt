use Rattle.std.proofs.Common.{arith, ap}
use Rattle.aud_desk.specs.Draws.{times}
use Rattle.aud_desk.specs.Views.{drawn}
use Rattle.aud_desk.proofs.Filled.{indices-below, times-below}
use Rattle.aud_desk.proofs.slots.settle.Goals as goal

pub place-requires : goal.place-requires
place-requires c =
    let w = c.args.worker in
    let n = w.seat.seat.me.0.n in
    λ k d low. omega (arith, indices-below n (drawn w.seat) w.entries.items w.each k d low)

pub returns-clause-full : goal.returns-clause-full
returns-clause-full c =
    let w = c.args.worker in
    let n = w.seat.seat.me.0.n in
    λ i low t. c.place.ensures.full i (omega (arith, ap (times i) w.each, times-below n i (drawn w.seat) (omega arith)))
