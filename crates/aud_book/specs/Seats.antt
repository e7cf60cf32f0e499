-- The seats of a desk.
use Rattle.std.specs.Prelude.{◌≡◌, ℕ, List, map, length}
use Rattle.aud_base.specs.Lists.{numbers_from}
use Rattle.aud_book.specs.declared.seat.TapSeat.{TapSeat}
use Rattle.aud_book.specs.declared.posts.Posts.{Ghosts}
use Rattle.aud_book.specs.History.{PostedTap, texts}

-- the lines that were posted from a seat, in their order
abbrev pub lines_of : {X : Type 0} {g : Ghosts X} → TapSeat X g → List (List ℕ)
lines_of s = texts s.lines.items

-- a seat's tap, as its poster knows it
abbrev pub seen_seat : {X : Type 0} {g : Ghosts X} → TapSeat X g → PostedTap
seen_seat s = record { name = s.name.now; lines = lines_of s }

abbrev pub seen_seats : {X : Type 0} {g : Ghosts X} → List (TapSeat X g) → List PostedTap
seen_seats ss = map seen_seat ss

-- how much of the desk's ledger is a seat's
abbrev pub counted_of : {X : Type 0} {g : Ghosts X} → TapSeat X g → ℕ
counted_of s = s.share.amount

-- two seats are of the tap of one name, at one place
abbrev pub IsOfSameTap : {X : Type 0} {g : Ghosts X} → TapSeat X g → TapSeat X g → Type 0
IsOfSameTap s t = (t.place ≡ s.place) × (t.name.now ≡ s.name.now)

-- nothing that can be seen of a seat has changed
abbrev pub IsUnchanged : {X : Type 0} {g : Ghosts X} → TapSeat X g → TapSeat X g → Type 0
IsUnchanged s t = IsOfSameTap s t × (lines_of t ≡ lines_of s) × (counted_of t ≡ counted_of s)

-- seats are in the order of their taps, each at the place of its tap
abbrev pub AreInOrder : {X : Type 0} {g : Ghosts X} → List (TapSeat X g) → Type 0
AreInOrder ss = map (λ s. s.place) ss ≡ numbers_from 0 (length ss)
