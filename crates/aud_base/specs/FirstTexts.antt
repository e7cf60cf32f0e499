-- Texts that are given one after another, each kept where it is first given.
use Rattle.std.specs.Prelude.{ℕ, List, [], ◌∷◌, ◌++◌, length, take, Option, Some, None, slice_get, if◌then◌else◌}
use Rattle.std.specs.List.{filter_map, list_any}
use Rattle.std.specs.Option.{option_and_then}
use Rattle.std.specs.Str.{bytes_eq}
use Rattle.aud_base.specs.Lists.{numbers_from}

-- the text with this number, where it is none of those before it
abbrev pub first_text : List (List ℕ) → ℕ → Option (List ℕ)
first_text texts number = option_and_then (λ text. if list_any (bytes_eq text) (take number texts) then None else Some text) (slice_get texts number)

-- each text once, in the order in which they are first given
abbrev pub first_texts : List (List ℕ) → List (List ℕ)
first_texts texts = filter_map (first_text texts) (numbers_from 0 (length texts))

-- the text goes last, unless it is there
abbrev pub with_text : List (List ℕ) → List ℕ → List (List ℕ)
with_text texts text = if list_any (bytes_eq text) texts then texts else texts ++ text ∷ []

-- texts that go in one after another
abbrev pub with_texts : List (List ℕ) → List (List ℕ) → List (List ℕ)
with_texts texts [] = texts
with_texts texts (text ∷ later) = with_texts (with_text texts text) later
