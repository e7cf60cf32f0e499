-- What clients see of tickets and their seats.
use Rattle.std.specs.Prelude.{◌≡◌, ℕ, List}
use Rattle.atomic_table.specs.Seated.{TableId}
use Rattle.aud_desk.specs.declared.tickets.TicketSeat.{TicketSeat}
use Rattle.aud_desk.specs.declared.tickets.Tickets.{Tickets}
use Rattle.aud_desk.specs.declared.tickets.Gathered.{Gathered}

-- the numbers that the seat drew, in order
abbrev pub drawn : TicketSeat → List ℕ
drawn s = s.seat.me.0.drawn

-- a seat of the tickets with this table, for so many numbers and seats
abbrev pub SeatOf : TableId → ℕ → ℕ → TicketSeat → Type 0
SeatOf table n seats s = (s.seat.table_id ≡ table) × (s.seat.me.0.n ≡ n) × (s.seat.me.0.seats ≡ seats)

-- a seat of these tickets
abbrev pub IsSeatOf : Tickets → TicketSeat → Type 0
IsSeatOf t s = SeatOf t.table.shared.table_id t.n t.seats s

-- the numbers that the gathered seats drew
abbrev pub all_drawn : Gathered → List ℕ
all_drawn s = s.seat.me.0.drawn

-- gathered seats of these tickets
abbrev pub IsAllOf : Tickets → Gathered → Type 0
IsAllOf t s = (s.seat.table_id ≡ t.table.shared.table_id) × (s.seat.me.0.n ≡ t.n) × (s.seat.me.0.seats ≡ t.seats)
