-- Where two lists part.
use Rattle.std.specs.Prelude.{◌≡◌, ℕ, List, take, slice_get}

-- the lists are the same in front of the place, and there they differ, or one of them has ended
pub record PartAt (one other : List ℕ) (place : ℕ) : Type 0 where
  pub same_before : take place one ≡ take place other
  pub part : slice_get one place ≡ slice_get other place → ⊥
