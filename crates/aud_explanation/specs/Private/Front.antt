-- The front of a text that stands in a line as it is.
use Rattle.std.specs.Prelude.{ℕ, Bool, true, not, ◌||◌, ◌==◌, List, [], ◌∷◌}
use Rattle.std.specs.Int.{is_in_range}
use Rattle.std.specs.List.{list_all}

-- a character that is shown as itself in one column
abbrev pub is_plain : ℕ → Bool
is_plain c = is_in_range 32 91 c || is_in_range 93 126 c

-- whether no word goes on there: at the end, or at a blank
abbrev pub ends_word : List ℕ → Bool
ends_word [] = true
ends_word (c ∷ cs) = c == 32

-- whether no line ends among these characters where they fit: a word ends with them, or they have no blank
abbrev pub stays_together : List ℕ → List ℕ → Bool
stays_together front rest = ends_word rest || list_all (λ c. not (c == 32)) front
