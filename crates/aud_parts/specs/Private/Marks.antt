-- Marks of the entries at some positions.
use Rattle.std.specs.Prelude.{◌≡◌, ◌<◌, ℕ, zero, suc, Bool, true, List, length, Some, nat_eq, slice_get, slice_set}
use Rattle.std.specs.List.{list_any}

-- the marks, with the entry at the position marked; positions count from 1
abbrev pub with_mark : ℕ → List Bool → List Bool
with_mark zero marks = marks
with_mark (suc number) marks = slice_set marks number true

-- of so many entries, those at these positions are marked
pub record AreMarked (count : ℕ) (positions : List ℕ) (marks : List Bool) : Type 0 where
  pub length_is : length marks ≡ count
  pub each : (number : ℕ) → number < count → slice_get marks number ≡ Some (list_any (nat_eq (suc number)) positions)
