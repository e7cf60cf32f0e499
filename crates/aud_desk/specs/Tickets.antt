-- The rule of the tickets: one word, the next number, and what each seat drew.
use Rattle.std.specs.Prelude.{◌≡◌, ℕ, ◌+◌, ◌-◌, ◌^◌, ◌<◌, ◌≤◌, Bool, true, false, List, [], ◌∷◌, ◌++◌, length, slice_index, if◌then◌else◌, nat_lt}
use mathlib.Core.Option.{some}
use lib.ListN.{get_elem?}
use Rattle.atomic_table.specs.Table.{State, Me, Step}
use Rattle.aud_desk.specs.declared.seat_view.SeatView.{SeatView}
use Rattle.aud_desk.specs.declared.seat_view.Bound.{Bound}
use Rattle.aud_desk.specs.Draws.{weigh, weigh_below, late_count, past_all}

-- a view with these parts
abbrev pub seat_view : ℕ → ℕ → ℕ → List ℕ → Bool → SeatView
seat_view n seats passes drawn live = record { n = n; seats = seats; passes = passes; drawn = drawn; live = live }

-- of each view, added up
abbrev pub total : (SeatView → ℕ) → List SeatView → ℕ
total f [] = 0
total f (v ∷ vs) = f v + total f vs

-- a live seat keeps the bound, and without passes it holds a number past the end. One that has ended has nothing
abbrev pub Fits : Bound → SeatView → Type 0
Fits k v = (v.live ≡ true → (v.n ≡ k.n) × (v.seats ≡ k.seats) × (v.passes ≡ 0 → 0 < late_count k.n v.drawn))
    × (v.live ≡ false → (v.passes ≡ 0) × (v.drawn ≡ []))

-- The seats' lists are disjoint and together the numbers below the word, however the numbers are weighed.
-- The passes and the numbers past the end together are as many as the seats asked for
pub record TicketLists (k : Bound) (s : State (Unit {0}) SeatView) : Type 0 where
  pub room : k.n + k.seats < 2 ^ 64
  pub one_word : length s.words ≡ 1
  pub each_once : (h : ℕ → ℕ) → total (λ v. weigh h v.drawn) s.views ≡ weigh_below h (slice_index s.words 0)
  pub passes : total (λ v. v.passes) s.views + total (λ v. late_count k.n v.drawn) s.views ≡ k.seats
  pub seats_fit : (id : ℕ) (v : SeatView) → get_elem? s.views id ≡ some v → Fits k v

-- the word: the next number to be drawn
abbrev pub next_number : State (Unit {0}) SeatView → ℕ
next_number s = slice_index s.words 0

-- the seat at this place has this view
abbrev pub IsSeatAt : State (Unit {0}) SeatView → ℕ → SeatView → Type 0
IsSeatAt s id v = get_elem? s.views id ≡ some v

-- make: the one seat has a pass for each seat asked for
abbrev pub made : Bound → SeatView
made k = seat_view k.n k.seats k.seats [] true

-- split: the stepping seat hands one pass to the new seat
abbrev pub one_pass_fewer : SeatView → SeatView
one_pass_fewer v = seat_view v.n v.seats (v.passes - 1) v.drawn v.live

-- and the new seat starts with that pass
abbrev pub starts : SeatView → SeatView
starts v = seat_view v.n v.seats 1 [] true

-- claim: the list gains the number that was there, and one past the end costs a pass
abbrev pub claimed : SeatView → ℕ → SeatView
claimed v x = seat_view v.n v.seats (if nat_lt x v.n then v.passes else (v.passes - 1)) (v.drawn ++ x ∷ []) v.live

-- and the number is past all that the seat drew
abbrev pub Claims : Step (Unit {0}) → Me (Unit {0}) SeatView → ℕ → Me (Unit {0}) SeatView → Type 0
Claims st m x m' = (m' ≡ (claimed m.0 x, m.1)) × (past_all m.0.drawn ≤ x)

-- join: the staying seat takes over list and passes
abbrev pub joined : SeatView → SeatView → SeatView
joined v w = seat_view v.n v.seats (v.passes + w.passes) (v.drawn ++ w.drawn) v.live

-- and nothing is left of the other
abbrev pub ended : SeatView
ended = seat_view 0 0 0 [] false
