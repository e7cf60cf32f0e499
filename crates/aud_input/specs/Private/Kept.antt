-- What an index keeps beside the lines.
use Rattle.std.specs.Prelude.{◌≡◌, ℕ, List, [], ◌∷◌, Option, None}
use Rattle.std.specs.Str.{bytes_eq}
use Rattle.std.specs.HashMap.{get_by_text}
use Rattle.aud_tap.specs.Names.{first_index}
use Rattle.aud_input.specs.declared.index.LineIndex.{LineIndex}
use Rattle.aud_input.specs.TapLines.{Indexed, TapLines}

-- the index, as contracts see it
abbrev pub so_far : LineIndex → Indexed
so_far s = record { taps = s.taps.items; lines = s.lines }

-- the place of the first of these taps with the name
abbrev pub place_in : List TapLines → List ℕ → Option ℕ
place_in ts name = first_index (λ (t : TapLines). bytes_eq t.name name) ts

-- no two taps have one name
abbrev pub AreNamedOnce : List TapLines → Type 0
AreNamedOnce [] = Unit {0}
AreNamedOnce (t ∷ ts) = (place_in ts t.name ≡ None) × AreNamedOnce ts

-- each name has the place of its tap, and each tap a name of its own
pub record KeepsPlaces (s : LineIndex) : Type 0 where
  pub places : (name : List ℕ) → get_by_text s.places name ≡ place_in s.taps.items name
  pub once : AreNamedOnce s.taps.items
