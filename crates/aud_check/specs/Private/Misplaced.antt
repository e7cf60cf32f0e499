-- A position that doesn't lie at a place of ascending ones.
use Rattle.std.specs.Prelude.{ℕ, Bool, false, ◌&&◌, List, take, drop, nat_le, nat_lt, Option, Some, None}
use Rattle.std.specs.List.{list_all}
use Rattle.aud_check.specs.declared.window.Misfit.{Misfit}
use Rattle.aud_check.specs.declared.window.Misfit.TheVariants.{Behind, NotBehind}
use Rattle.aud_check.specs.Window.{IsBehind, IsNotBehind}

-- the position lies after so many first ones and before the others
abbrev pub is_cut : List ℕ → ℕ → ℕ → Bool
is_cut positions count q = list_all (λ p. nat_le p q) (take count positions) && list_all (λ p. nat_lt q p) (drop count positions)

-- there is a position, and it lies there
abbrev pub is_cut_or_not : List ℕ → ℕ → Option ℕ → Bool
is_cut_or_not positions count None = false
is_cut_or_not positions count (Some q) = is_cut positions count q

-- the last one in front is past the position, or the next one isn't
abbrev pub IsMisplaced : List ℕ → ℕ → ℕ → Misfit → Type 0
IsMisplaced positions count q (Behind frame) = IsBehind positions (Some q) count frame
IsMisplaced positions count q (NotBehind frame) = IsNotBehind positions (Some q) count frame
IsMisplaced positions count q _ = ⊥
