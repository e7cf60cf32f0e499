-- Lists in the order of a number of their elements.
use Rattle.std.specs.Prelude.{ℕ, List, [], ◌∷◌, nat_le, if◌then◌else◌}

-- the elements with this one, in front of the first whose number isn't smaller
abbrev pub put_in : {X : Type 0} → (X → ℕ) → X → List X → List X
put_in number x [] = x ∷ []
put_in number x (y ∷ ys) = if nat_le (number x) (number y) then x ∷ y ∷ ys else y ∷ put_in number x ys

-- the elements by ascending numbers; those of one number stay in their order
abbrev pub in_order : {X : Type 0} → (X → ℕ) → List X → List X
in_order number [] = []
in_order number (x ∷ xs) = put_in number x (in_order number xs)
