-- What serde_json leaves after a value, by its first token.
use Rattle.std.proofs.Common.{◌≡◌, ℕ, ◌-◌, ◌<◌, List, [], ◌∷◌, length, Some, None, option_map, refl, ap, ◌∙◌}
use Rattle.json.specs.Token.{Token}
use Rattle.json.specs.Json as json
use Rattle.json.specs.Json.{Parse, after_end_array, read_key, items, members, value}
use Rattle.json.proofs.Grammar.{value_is, value-begin_array, value-begin_object, left_some, left-parse_map}
use Rattle.serde_json.specs.Data.{Data, array, object, Members, put}
use Rattle.serde_json.specs.Read.{number_of, of_json, of_items, of_members, converted}
use Rattle.aud_json.specs.Private.Passed.{left, passed, passed_items, passed_members}
use Rattle.aud_json.proofs.Reading.{converted-array, converted-object, item_read, member_read}

-- no value begins where no token is left
pub passed_nothing : (depth : ℕ) → passed depth [] ≡ None
passed_nothing depth = ap (λ o. left (converted of_json o)) (value_is depth [])

-- a number, where it is in range
pub passed_number : (depth : ℕ) (s : List ℕ) (ts : List Token) → passed depth (Token.number s ∷ ts) ≡ left (option_map (λ d. (d, ts)) (option_map Data.number (number_of s)))
passed_number depth s ts = ap (λ o. left (converted of_json o)) (value_is depth _)

-- a list that nests too deep
pub passed_deep_array : (ts : List Token) → passed 0 (Token.begin_array ∷ ts) ≡ None
unfolding value
passed_deep_array ts = refl

-- an object that nests too deep
pub passed_deep_object : (ts : List Token) → passed 0 (Token.begin_object ∷ ts) ≡ None
unfolding value
passed_deep_object ts = refl

-- a list, by its items
pub passed_array : (depth : ℕ) (ts : List Token) → 0 < depth → passed depth (Token.begin_array ∷ ts) ≡ passed_items (depth - 1) ts
passed_array depth ts some =
    ap (λ o. left (converted of_json o)) (value-begin_array depth ts some) ∙ ap left (converted-array (items (value (depth - 1)) (length ts) ts)) ∙ left-parse_map array _

-- an object, by its members
pub passed_object : (depth : ℕ) (ts : List Token) → 0 < depth → passed depth (Token.begin_object ∷ ts) ≡ passed_members (depth - 1) ts
passed_object depth ts some =
    ap (λ o. left (converted of_json o)) (value-begin_object depth ts some) ∙ ap left (converted-object (members (value (depth - 1)) (length ts) ts)) ∙ left-parse_map object _

-- ---- a turn of the loops

-- an item was passed
pub pass_item : (p : Parse json.Json) (n : ℕ) (ts r : List Token) → 0 < n → after_end_array ts ≡ None → left (converted of_json (p ts)) ≡ Some r
    → left (converted of_items (items p n ts)) ≡ left (converted of_items (items p (n - 1) r))
pass_item p n ts r some going e =
    let d = left_some (converted of_json (p ts)) r e in
    ap left (item_read p n ts r d.0 some going d.1) ∙ left-parse_map _ _

-- the value that came, and the members so far
pub pass_member : (p : Parse json.Json) (old : Members) (n : ℕ) (k : List ℕ) (ts s r : List Token) → 0 < n → read_key ts ≡ Some (Some k, s) → left (converted of_json (p s)) ≡ Some r
    → (new : Members) × (left (converted (λ ms. of_members ms old) (members p n ts)) ≡ left (converted (λ ms. of_members ms new) (members p (n - 1) r)))
pass_member p old n k ts s r some key e =
    let d = left_some (converted of_json (p s)) r e in (put k d.0 old, ap left (member_read p old n k ts s r d.0 some key d.1))
