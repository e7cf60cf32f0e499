use Rattle.std.proofs.Common.{◌≡◌, take}
use Rattle.aud_book.specs.Taps.{seen_taps}
use Rattle.aud_book.specs.Seats.{seen_seats}
use Rattle.aud_book.proofs.shelf.Shelf.are_seats_of.Given as goal

abbrev pub invariant-loop-i : goal.invariant-loop-i
invariant-loop-i g l = seen_taps (take l.i l.taps) ≡ seen_seats (take l.i l.seats)
