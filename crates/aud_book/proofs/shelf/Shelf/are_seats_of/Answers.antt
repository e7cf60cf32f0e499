use Rattle.std.proofs.Common.{rules, ap, sym, ◌∙◌}
use Rattle.aud_book.specs.Taps.{seen}
use Rattle.aud_book.specs.Seats.{seen_seat}
use Rattle.aud_book.proofs.Alike.{alike-at, number-at}
use Rattle.aud_book.proofs.shelf.Shelf.are_seats_of.Goals as goal

pub returns-then-not-is_seat_of-clause-other : goal.returns-then-not-is_seat_of-clause-other
returns-then-not-is_seat_of-clause-other g c =
    λ e order same. c.is_seat_of.ensures.other c.if-not-is_seat_of.true
    (ap (λ s. s.place) c.index-seats-i.is ∙ number-at (λ s. s.place) c.args.seats.now c.loop-i.i _ c.loop-i-test.true order)
    (ap seen c.index-taps-i.is ∙ alike-at seen seen_seat c.args.taps.now c.args.seats.now c.loop-i.i _ _ (search rules) c.loop-i-test.true same ∙ sym (ap seen_seat c.index-seats-i.is))
