-- What a string's content is read from, byte by byte.
use Rattle.std.specs.Prelude.{◌≡◌, ℕ, ◌+◌, ◌≤◌, List, [], ◌∷◌, ◌++◌, drop, take}
use Rattle.std.specs.List.{prefix_len}
use Rattle.std.specs.Str.{IsUtf8}
use Rattle.json.specs.Run.{is_plain}
use Rattle.json.specs.Text.{content, plain, prepend}
use Rattle.json.specs.Lex.{in_string, lex}

-- the byte c of the content is read, from one place of the text up to another
abbrev pub IsByte : List ℕ → ℕ → ℕ → ℕ → Type 0
IsByte text at c next =
    (content plain (drop at text) ≡ prepend (c ∷ []) (content plain (drop next text))) × (lex in_string (drop at text) ≡ lex in_string (drop next text))
    × ((before : List ℕ) → IsUtf8 (before ++ drop at text) → IsUtf8 (before ++ c ∷ drop next text))

-- n plain bytes of a text were copied, from one place of it to another of a room
abbrev pub IsCopied : List ℕ → ℕ → List ℕ → ℕ → ℕ → List ℕ → Type 0
IsCopied text from old to n new = (n ≤ prefix_len is_plain (drop from text)) × (take (to + n) new ≡ take to old ++ take n (drop from text))
