use Rattle.std.proofs.Common.{◌≡◌, ◌+◌, ◌-◌, true, [], vec_len, All}
use Rattle.aud_desk.specs.Tickets.{seat_view}
use Rattle.aud_desk.specs.Views.{SeatOf, drawn}
use Rattle.aud_desk.proofs.tickets.Tickets.new.Given as goal

abbrev pub invariant-loop : goal.invariant-loop
invariant-loop l = record {
  here : l.first.table_id ≡ l.table.shared.table_id;
  me : l.first.me ≡ (seat_view l.n l.seats ((l.seats + 1) - l.counter) [] true, []);
  len : vec_len l.all + 1 ≡ l.counter;
  each : All (λ s. SeatOf l.table.shared.table_id l.n l.seats s × (drawn s ≡ [])) l.all.items;
}
