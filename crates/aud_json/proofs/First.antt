-- What serde_json reads, by the first token.
use Rattle.std.proofs.Common.{◌≡◌, ℕ, ◌-◌, ◌<◌, List, [], ◌∷◌, length, Bool, true, false, true≢false, Option, Some, None, option_map, refl, sym, ap, ◌∙◌}
use Rattle.json.specs.Token.{Token}
use Rattle.json.specs.Json as json
use Rattle.json.specs.Json.{Parse, parse_map, items, members, value, value_with}
use Rattle.json.proofs.Grammar.{value_is, value-begin_array, value-begin_object}
use Rattle.serde_json.specs.Data.{Num, Data, null, boolean, number, string, array, object, no_members}
use Rattle.serde_json.specs.Read.{number_of, of_json, of_items, of_members, converted}
use Rattle.aud_json.specs.Shown.{shown_item, shown}
use Rattle.aud_json.proofs.Reading.{converted-array, converted-object}

-- no value begins where no token is left
pub first_nothing : (depth : ℕ) → converted of_json (value depth []) ≡ None
first_nothing depth = ap (converted of_json) (value_is depth [])

-- a text
pub first_string : (depth : ℕ) (s : List ℕ) (ts : List Token) → converted of_json (value depth (Token.string s ∷ ts)) ≡ Some (string s, ts)
first_string depth s ts = ap (converted of_json) (value_is depth _)

-- true or false
pub first_boolean : (depth : ℕ) (b : Bool) (ts : List Token) → converted of_json (value depth (Token.boolean b ∷ ts)) ≡ Some (boolean b, ts)
first_boolean depth b ts = ap (converted of_json) (value_is depth _)

-- null
pub first_null : (depth : ℕ) (ts : List Token) → converted of_json (value depth (Token.null ∷ ts)) ≡ Some (null, ts)
first_null depth ts = ap (converted of_json) (value_is depth _)

-- a number, where it is in range
pub first_number : (depth : ℕ) (s : List ℕ) (ts : List Token) → converted of_json (value depth (Token.number s ∷ ts)) ≡ option_map {U = Data × List Token} (λ d. (d, ts)) (option_map number (number_of s))
first_number depth s ts = ap (converted of_json) (value_is depth _)

-- a list that nests too deep
pub first_deep_array : (ts : List Token) → converted of_json (value 0 (Token.begin_array ∷ ts)) ≡ None
unfolding value
first_deep_array ts = refl

-- an object that nests too deep
pub first_deep_object : (ts : List Token) → converted of_json (value 0 (Token.begin_object ∷ ts)) ≡ None
unfolding value
first_deep_object ts = refl

-- a list, by its items
pub first_array : (depth : ℕ) (ts : List Token) → 0 < depth
    → converted of_json (value depth (Token.begin_array ∷ ts)) ≡ parse_map array (converted of_items (items (value (depth - 1)) (length ts) ts))
first_array depth ts some = ap (converted of_json) (value-begin_array depth ts some) ∙ converted-array (items (value (depth - 1)) (length ts) ts)

-- an object, by its members
pub first_object : (depth : ℕ) (ts : List Token) → 0 < depth
    → converted of_json (value depth (Token.begin_object ∷ ts)) ≡ parse_map object (converted (λ ms. of_members ms no_members) (members (value (depth - 1)) (length ts) ts))
first_object depth ts some = ap (converted of_json) (value-begin_object depth ts some) ∙ converted-object (members (value (depth - 1)) (length ts) ts)

-- ---- what the value can be

-- the value that was read, or null
abbrev pub data_of : Option (Data × List Token) → Data
data_of None = null
data_of (Some p) = p.0

-- what was changed was there before
mapped : {A : Type 0} (f : A → Data) (o : Option (A × List Token)) (d : Data) (r : List Token) → parse_map f o ≡ Some (d, r) → (a : A) × (d ≡ f a)
mapped f None d r e = absurd (cc)
mapped f (Some p) d r e = (p.0, sym (ap data_of e))

-- what a number gives is a number
numbered : (x : Option Num) (ts : List Token) (d : Data) (r : List Token) → option_map {U = Data × List Token} (λ b. (b, ts)) (option_map number x) ≡ Some (d, r) → (n : Num) × (d ≡ number n)
numbered None ts d r e = absurd (cc)
numbered (Some n) ts d r e = (n, sym (ap data_of e))

-- the text that a token is, as an item
abbrev pub token_item : Token → Data
token_item Token.begin_object = null
token_item Token.end_object = null
token_item Token.begin_array = null
token_item Token.end_array = null
token_item (Token.key s) = null
token_item (Token.string s) = string s
token_item (Token.number s) = null
token_item (Token.boolean b) = null
token_item Token.null = null
token_item Token.bad = null

-- an item that was read shows the text of its first token
item_with : (a : Parse json.Items) (o : Parse json.Members) (t : Token) (ts r : List Token) (d : Data) → converted of_json (value_with a o (t ∷ ts)) ≡ Some (d, r) → shown_item d ≡ token_item t
item_with a o Token.begin_object ts r d e = ap shown_item (mapped object _ d r (sym (converted-object (o ts)) ∙ e)).1
item_with a o Token.end_object ts r d e = absurd (cc)
item_with a o Token.begin_array ts r d e = ap shown_item (mapped array _ d r (sym (converted-array (a ts)) ∙ e)).1
item_with a o Token.end_array ts r d e = absurd (cc)
item_with a o (Token.key s) ts r d e = absurd (cc)
item_with a o (Token.string s) ts r d e = sym (ap (λ x. shown_item (data_of x)) e)
item_with a o (Token.number s) ts r d e = ap shown_item (numbered (number_of s) ts d r e).1
item_with a o (Token.boolean b) ts r d e = sym (ap (λ x. shown_item (data_of x)) e)
item_with a o Token.null ts r d e = sym (ap (λ x. shown_item (data_of x)) e)
item_with a o Token.bad ts r d e = absurd (cc)

-- the same of the value of a text that nests so deep
pub item_first : (depth : ℕ) (t : Token) (ts r : List Token) (d : Data) → converted of_json (value depth (t ∷ ts)) ≡ Some (d, r) → shown_item d ≡ token_item t
item_first depth t ts r d e = item_with _ _ t ts r d (ap (converted of_json) (sym (value_is depth (t ∷ ts))) ∙ e)

-- whether a token begins an object
abbrev pub opens_object : Token → Bool
opens_object Token.begin_object = true
opens_object Token.end_object = false
opens_object Token.begin_array = false
opens_object Token.end_array = false
opens_object (Token.key s) = false
opens_object (Token.string s) = false
opens_object (Token.number s) = false
opens_object (Token.boolean b) = false
opens_object Token.null = false
opens_object Token.bad = false

-- a value that does not begin as an object shows no members
no_object_with : (a : Parse json.Items) (o : Parse json.Members) (t : Token) (ts r : List Token) (d : Data) → opens_object t ≡ false → converted of_json (value_with a o (t ∷ ts)) ≡ Some (d, r) → shown d ≡ object no_members
no_object_with a o Token.begin_object ts r d h e = absurd (true≢false h)
no_object_with a o Token.end_object ts r d h e = absurd (cc)
no_object_with a o Token.begin_array ts r d h e = ap shown (mapped array _ d r (sym (converted-array (a ts)) ∙ e)).1
no_object_with a o Token.end_array ts r d h e = absurd (cc)
no_object_with a o (Token.key s) ts r d h e = absurd (cc)
no_object_with a o (Token.string s) ts r d h e = sym (ap (λ x. shown (data_of x)) e)
no_object_with a o (Token.number s) ts r d h e = ap shown (numbered (number_of s) ts d r e).1
no_object_with a o (Token.boolean b) ts r d h e = sym (ap (λ x. shown (data_of x)) e)
no_object_with a o Token.null ts r d h e = sym (ap (λ x. shown (data_of x)) e)
no_object_with a o Token.bad ts r d h e = absurd (cc)

-- the same of the value of a text that nests so deep
pub no_object_first : (depth : ℕ) (t : Token) (ts r : List Token) (d : Data) → opens_object t ≡ false → converted of_json (value depth (t ∷ ts)) ≡ Some (d, r) → shown d ≡ object no_members
no_object_first depth t ts r d h e = no_object_with _ _ t ts r d h (ap (converted of_json) (sym (value_is depth (t ∷ ts))) ∙ e)
