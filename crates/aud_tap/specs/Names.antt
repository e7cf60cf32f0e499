-- The places of taps by their names.
use Rattle.std.specs.Prelude.{◌≡◌, ℕ, suc, Bool, List, [], ◌∷◌, Option, Some, None, if◌then◌else◌, slice_get}
use Rattle.std.specs.Option.{option_map}
use Rattle.std.specs.Str.{bytes_eq}
use Rattle.aud_tap.specs.declared.taps.Tap.{Tap}

-- the least index of an element that passes
abbrev pub first_index : {X : Type 0} → (X → Bool) → List X → Option ℕ
first_index test [] = None
first_index test (x ∷ xs) = if test x then Some 0 else option_map suc (first_index test xs)

-- the place of the first tap with the name; places count from 0
abbrev pub place_of : List Tap → List ℕ → Option ℕ
place_of taps name = first_index (λ (tap : Tap). bytes_eq tap.name name) taps

-- each tap is the first with its name
abbrev pub AreNamedOnce : List Tap → Type 0
AreNamedOnce taps = (place : ℕ) (tap : Tap) → slice_get taps place ≡ Some tap → place_of taps tap.name ≡ Some place
