-- Words about lists.
use Rattle.std.specs.Prelude.{Bool, true, false, List, [], ◌∷◌}
pub use Rattle.aud_base.specs.Lists.{numbers_from, between}
pub use Rattle.aud_tap.specs.Names.{first_index}

-- the list has no elements
abbrev pub is_empty : {X : Type 0} → List X → Bool
is_empty [] = true
is_empty (x ∷ xs) = false
