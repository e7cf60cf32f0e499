-- The names of a desk's taps.
use Rattle.std.specs.Prelude.{ℕ, ◌+◌, List, [], ◌∷◌, ◌&&◌, Bool, true, not, length, nat_le}
use Rattle.std.specs.List.{list_any, list_all}
use Rattle.std.specs.Str.{bytes_eq}
use Rattle.aud_tap.specs.TapName.{is_tap_name}
use Rattle.aud_reader.specs.Bundle.{max_node_taps, max_client_taps}

-- the most taps of a bundle: one stream, and as many nodes and clients as there may be
abbrev pub max_taps : ℕ
max_taps = 1 + max_node_taps + max_client_taps

-- a name is none of these
abbrev pub is_new : List (List ℕ) → List ℕ → Bool
is_new names name = not (list_any (λ other. bytes_eq other name) names)

-- each name stands once
abbrev pub stand_once : List (List ℕ) → Bool
stand_once [] = true
stand_once (n ∷ ns) = is_new ns n && stand_once ns

-- a bundle can have so many taps
abbrev pub is_tap_count : ℕ → Bool
is_tap_count count = nat_le 1 count && nat_le count max_taps

-- names of taps, each once: at least one, and no more than a bundle has taps
abbrev pub are_desk_names : List (List ℕ) → Bool
are_desk_names names = is_tap_count (length names) && list_all is_tap_name names && stand_once names
