-- Places by the texts that stand there.
use Rattle.std.specs.Prelude.{ℕ, ◌-◌, List, [], ◌∷◌, ◌++◌, length, map, string_bytes, Bool, false, Option, Some, None, nat_eq, slice_get, if◌then◌else◌}
use Rattle.std.specs.List.{filter}
use Rattle.std.specs.Option.{option_map_or}
use Rattle.std.specs.HashMap.{get_by_text, keys}
pub use Rattle.aud_base.specs.Lists.{numbers_from}
use Rattle.aud_base.specs.declared.places.Places.{Places}

-- the places that the index has for the text
abbrev pub places_of : Places → List ℕ → List ℕ
places_of index text = option_map_or (λ places. places.items) (get_by_text index.by_text text) []

-- the texts that stand somewhere, in the order in which they were first noted
abbrev pub texts_of : Places → List (List ℕ)
texts_of index = map string_bytes (keys index.by_text)

-- the places, ascending, of those before a number that pass; places count from 0
abbrev pub places_where : (ℕ → Bool) → ℕ → List ℕ
places_where passes count = filter passes (numbers_from 0 count)

-- there is a place, and it is this one
abbrev pub is_place : ℕ → Option ℕ → Bool
is_place place None = false
is_place place (Some other) = nat_eq other place

-- the places with this one after them, where it isn't the last of them already
abbrev pub with_place : ℕ → List ℕ → List ℕ
with_place place places = if is_place place (slice_get places (length places - 1)) then places else places ++ place ∷ []

-- the places, with this one where it is to be noted
abbrev pub noted : ℕ → Bool → List ℕ → List ℕ
noted place passes places = if passes then with_place place places else places
