-- What a schedule gains while it is made.
use Rattle.std.specs.Prelude.{◌≡◌, ℕ, ◌≤◌, ◌+◌, List, [], ◌∷◌, ◌++◌, length, Bool, true, false}
use Rattle.std.specs.List.{All}
use Rattle.aud_sim.specs.declared.act.Act.{Act}
use Rattle.aud_sim.specs.declared.act.Act.TheVariants.{LoseLine, RepeatLine}
use Rattle.aud_schedule.specs.declared.course.Size.{Size}
use Rattle.aud_schedule.specs.Acts.{Kind, faults, IsWithin}

-- which fault the act is doesn't depend on the act after it
abbrev pub is_settled : Act → Bool
is_settled LoseLine = false
is_settled RepeatLine = false
is_settled act = true

-- so it is with the last of the acts, if there is one
abbrev pub are_settled : List Act → Bool
are_settled [] = true
are_settled (act ∷ []) = is_settled act
are_settled (act ∷ next ∷ acts) = are_settled (next ∷ acts)

-- the acts of a cluster of this size are at most so many more, with these faults among them
pub record Grown (size : Size) (most : ℕ) (gained : List Kind) (old new : List Act) : Type 0 where
  pub at_most : length new ≤ length old + most
  pub settles : are_settled old ≡ true → are_settled new ≡ true
  pub gains : are_settled old ≡ true → faults new ≡ faults old ++ gained
  pub within : All (IsWithin size.nodes size.clients) old → All (IsWithin size.nodes size.clients) new
