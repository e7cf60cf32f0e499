-- What the fast way finds of an object's tokens.
use Rattle.std.specs.Prelude.{◌≡◌, ◌≤◌, ℕ, List, length, get_or, true, false, Option, Some}
use Rattle.std.specs.Borrow.{Bor}
use Rattle.json.specs.Json as Json
use Rattle.json.specs.Lex.{lex, between, begins_colon, punctuate, fresh, after_value}
use Rattle.json.specs.Run.{is_plain}
use Rattle.json.specs.Token.{Token, string, number}
use Rattle.serde_json.specs.Data as value
use Rattle.serde_json.specs.Data.{Num, Data, Items}
use Rattle.serde_json.specs.Read.{number_of, converted, of_items, of_json}
use Rattle.aud_json.specs.View.{field_view, list_view}
use Rattle.aud_json.specs.Shown.{shown_field, shown_items}
use Rattle.aud_json.specs.declared.field.Field.{Field}

-- a text or a number, and the field that it is
abbrev pub IsToken : Token → Field → Type 0
IsToken (string s) f = field_view f ≡ value.string s
IsToken (number s) f = (n : Num) × (number_of s ≡ Some n) × (field_view f ≡ value.number n)
IsToken _ f = ⊥

-- a value is read as this field, wherever its text may end before the rest
abbrev pub IsRead : List ℕ → Field → List ℕ → Type 0
IsRead text f rest =
    begins_colon (lex between rest) ≡ false
    → (d : Data) × (converted of_json (Json.value 126 (punctuate fresh (lex between text))) ≡ Some (d, punctuate after_value (lex between rest))) × (shown_field d ≡ field_view f)

-- the items of a list are read as these texts, up to the bracket before the rest
abbrev pub AreRead : List ℕ → List (Option (Bor (List ℕ))) → List ℕ → Type 0
AreRead text os rest =
    (ds : Items) × (converted of_items (Json.items (Json.value 125) (length (punctuate fresh (lex between text))) (punctuate fresh (lex between text))) ≡ Some (ds, punctuate after_value (lex between rest)))
    × (shown_items ds ≡ list_view os)

-- a key of one plain byte comes first, between its quotes, and then a colon
pub record IsOneLetter (text : List ℕ) : Type 0 where
  pub long : 4 ≤ length text
  pub opened : get_or text 0 0 ≡ 34
  pub letter : is_plain (get_or text 1 0) ≡ true
  pub closed : get_or text 2 0 ≡ 34
  pub colon : get_or text 3 0 ≡ 58
