-- The taps of a book.
use Rattle.std.specs.Prelude.{ℕ, List, [], map}
use Rattle.std.specs.Borrow.{Bor}
use Rattle.aud_book.specs.declared.book.TapLines.{TapLines}
use Rattle.aud_book.specs.History.{PostedTap, texts}

-- a tap's name and lines, as their bytes
abbrev pub seen : TapLines → PostedTap
seen t = record { name = t.name.now; lines = texts t.lines.items }

abbrev pub seen_taps : List TapLines → List PostedTap
seen_taps ts = map seen ts

-- a tap of this name, with no line
abbrev pub unposted : Bor (List ℕ) → PostedTap
unposted name = record { name = name.now; lines = [] }

-- the names of the taps
abbrev pub names_of : List TapLines → List (List ℕ)
names_of ts = map (λ t. t.name.now) ts
