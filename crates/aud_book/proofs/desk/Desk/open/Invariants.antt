use Rattle.std.proofs.Common.{◌≡◌, ◌+◌, map, take}
use Rattle.aud_book.specs.Taps.{unposted}
use Rattle.aud_book.specs.Seats.{seen_seats}
use Rattle.aud_book.proofs.desk.Desk.open.Given as goal

abbrev pub invariant-loop-place : goal.invariant-loop-place
invariant-loop-place g l = record {
  parts : l.rest.parts + l.place ≡ l.count;
  amount : l.rest.amount ≡ 0;
  seats : seen_seats l.seats.items ≡ map unposted (take l.place l.names);
}
