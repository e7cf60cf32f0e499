-- How many items the list of a field has.
use Rattle.std.proofs.Common.{◌≡◌, ℕ, List, [], ◌∷◌, length, Option, refl, arith, Bor}
use Rattle.aud_json.specs.View.{list_view}
use Rattle.aud_refusals.specs.Excess.{items_count}

-- as many as the field has
pub items_count-list : (os : List (Option (Bor (List ℕ)))) → items_count (list_view os) ≡ length os
items_count-list [] = refl
items_count-list (o ∷ os) = let rest = items_count-list os in omega (arith, rest)
