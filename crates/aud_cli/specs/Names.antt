-- Names in a list.
use Rattle.std.specs.Prelude.{ℕ, List, Bool, ◌==◌}
use Rattle.std.specs.List.{list_any, slice_split}
use Rattle.std.specs.Str.{bytes_eq}

-- those of a list: between its commas
abbrev pub names_in : List ℕ → List (List ℕ)
names_in list = slice_split (λ b. b == 44) list

-- this name is one of them
abbrev pub has_name : List (List ℕ) → List ℕ → Bool
has_name names name = list_any (λ part. bytes_eq part name) names
