-- Words about lists.
use Rattle.std.specs.Prelude.{ℕ, zero, suc, ◌-◌, List, [], ◌∷◌, take, drop}

-- the numbers from the first on, so many
abbrev pub numbers_from : ℕ → ℕ → List ℕ
numbers_from first zero = []
numbers_from first (suc count) = first ∷ numbers_from (suc first) count

-- the elements from the first index on, before the second
abbrev pub between : {X : Type 0} → List X → ℕ → ℕ → List X
between xs from to = take (to - from) (drop from xs)
