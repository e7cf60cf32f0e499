-- Where a number comes among ascending numbers.
use Rattle.std.specs.Prelude.{ℕ, List, [], ◌∷◌, if◌then◌else◌, nat_eq, nat_le}
use Rattle.std.specs.List.{position_or_len}

-- how many of the numbers come before the first that isn't below this one
abbrev pub count_below : ℕ → List ℕ → ℕ
count_below n ms = position_or_len (λ m. nat_le n m) ms

-- the numbers without this one, if it is their first
abbrev pub without_first : ℕ → List ℕ → List ℕ
without_first n [] = []
without_first n (m ∷ ms) = if nat_eq m n then ms else m ∷ ms
