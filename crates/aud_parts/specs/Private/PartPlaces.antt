-- Parts by the first of their pids.
use Rattle.std.specs.Prelude.{ℕ, Bool, false, List, [], ◌∷◌, length, slice_get}
use Rattle.std.specs.Option.{option_map_or}
use Rattle.std.specs.Cmp.Lexicographic.{pointwise}
use Rattle.std.specs.Str.{bytes_eq}
use Rattle.aud_base.specs.Places.{places_where}
use Rattle.aud_node.specs.Stream.{Text}

-- the first of the pids; nothing where there is none
abbrev pub first_or_none : List Text → Text
first_or_none [] = []
first_or_none (pid ∷ pids) = pid

-- the first of the pids is this one
abbrev pub begins_with : Text → List Text → Bool
begins_with pid pids = bytes_eq (first_or_none pids) pid

-- the parts whose first pid is this one
abbrev pub places_by_first : List (List Text) → Text → List ℕ
places_by_first parts pid =
    places_where (λ part. option_map_or (begins_with pid) (slice_get parts part) false) (length parts)

-- the part with this number has these pids
abbrev pub has_pids : List (List Text) → List Text → ℕ → Bool
has_pids parts pids part =
    option_map_or (λ own. pointwise bytes_eq own pids) (slice_get parts part) false
