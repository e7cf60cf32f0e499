-- What is left after a value that serde_json reads.
use Rattle.std.specs.Prelude.{ℕ, length, List, Option, option_map}
use Rattle.json.specs.Token.{Token}
use Rattle.json.specs.Json.{value, items, members}
use Rattle.serde_json.specs.Data.{no_members}
use Rattle.serde_json.specs.Read.{of_json, of_items, of_members, converted}

-- the tokens that are left after what was read
abbrev pub left : {A : Type 0} → Option (A × List Token) → Option (List Token)
left r = option_map (λ p. p.1) r

-- those after a value that nests no deeper than this
abbrev pub passed : ℕ → List Token → Option (List Token)
passed depth ts = left (converted of_json (value depth ts))

-- those after the items of a list, and the bracket that closes it
abbrev pub passed_items : ℕ → List Token → Option (List Token)
passed_items depth ts = left (converted of_items (items (value depth) (length ts) ts))

-- those after the members of an object, and the brace that closes it
abbrev pub passed_members : ℕ → List Token → Option (List Token)
passed_members depth ts = left (converted (λ ms. of_members ms no_members) (members (value depth) (length ts) ts))
