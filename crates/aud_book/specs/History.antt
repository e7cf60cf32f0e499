-- What was posted: the lines of each tap, and the order in which all of them came.
use Rattle.std.specs.Prelude.{◌≡◌, ℕ, zero, suc, List, [], ◌∷◌, ◌==◌, if◌then◌else◌, map}
use Rattle.std.specs.Borrow.{Bor}

-- a tap's name, and its lines in their order
pub record PostedTap : Type 0 where
  pub name : List ℕ
  pub lines : List (List ℕ)

-- the lines of the tap at a place, from 0; none past the last tap
abbrev pub lines_at : List PostedTap → ℕ → List (List ℕ)
lines_at [] place = []
lines_at (t ∷ ts) zero = t.lines
lines_at (t ∷ ts) (suc place) = lines_at ts place

-- the lines that a history has for the tap at a place, in their order
abbrev pub project : ℕ → List (ℕ × List ℕ) → List (List ℕ)
project place [] = []
project place (p ∷ ps) = if p.0 == place then p.1 ∷ project place ps else project place ps

-- the history is a merging of the taps' lines: for each place it has the lines of the tap there, in their order, and no
-- others
abbrev pub IsMergingOf : List PostedTap → List (ℕ × List ℕ) → Type 0
IsMergingOf taps history = (place : ℕ) → lines_at taps place ≡ project place history

-- the bytes of borrowed lines
abbrev pub texts : List (Bor (List ℕ)) → List (List ℕ)
texts ls = map (λ l. l.now) ls

-- the places and the bytes of a history of borrowed lines
abbrev pub pairs : List (ℕ × Bor (List ℕ)) → List (ℕ × List ℕ)
pairs ps = map (λ p. (p.0, p.1.now)) ps
