-- Two lists, of which one has something for each element of the other.
use Rattle.std.specs.Prelude.{List, [], ◌∷◌}

-- the lists are as long as each other, and what stands at one place is related so
abbrev pub OneForEach : {A B : Type 0} → (A → B → Type 0) → List A → List B → Type 0
OneForEach Is [] [] = Unit {0}
OneForEach Is (x ∷ xs) (y ∷ ys) = Is x y × OneForEach Is xs ys
OneForEach Is _ _ = ⊥
