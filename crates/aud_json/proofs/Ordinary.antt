-- The members of an ordinary object, one after another, and their tokens.
use Rattle.std.proofs.Common.{◌≡◌, ◌<◌, Option, ℕ, ◌-◌, ◌≤◌, true, false, List, [], ◌∷◌, ◌++◌, length, Some, Bor, refl, sym, ap, ◌∙◌, arith, option_map, option_and_then}
use Rattle.json.specs.Token.{Token, begin_object, end_object, begin_array, end_array, key, string, number, boolean, null, bad}
use Rattle.json.specs.Json.{if_last, parse_map, read_key, members, value}
use Rattle.json.specs.Lex.{Lexeme, token, comma, colon, lex, between, Place, fresh, after_value, after_comma, begins_colon, may_begin, punctuate, tokens}
use Rattle.serde_json.specs.Data as data_value
use Rattle.serde_json.specs.Data.{Data, Members, no_members, object, put}
use Rattle.serde_json.specs.Read.{of_json, of_members, converted, max_depth, read}
use Rattle.aud_json.specs.Shown.{shown_field, shown_members}
use Rattle.aud_json.specs.View.{field_view, list_view, members_view}
use Rattle.aud_json.specs.Private.Flat.{AreRead, IsRead, IsToken}
use Rattle.aud_json.specs.declared.field.Field.{Field}
use Rattle.json.proofs.Grammar.{left as left_of, skip_value-shorter}
use Rattle.aud_json.proofs.First.{first_array, first_string, first_number, first_object}
use Rattle.aud_json.proofs.Growing.{members_grow}
use Rattle.aud_json.proofs.Listed.{allowed}
use Rattle.aud_json.proofs.Reading.{converted_some, member_read, members_over}

-- a text or a number is read, and is shown by its field
field_read : (depth : ℕ) (t : Token) (f : Field) (ts : List Token) → IsToken t f → (d : Data) × (converted of_json (value depth (t ∷ ts)) ≡ Some (d, ts)) × (shown_field d ≡ field_view f)
field_read depth begin_object f ts h = absurd h
field_read depth end_object f ts h = absurd h
field_read depth begin_array f ts h = absurd h
field_read depth end_array f ts h = absurd h
field_read depth (key s) f ts h = absurd h
field_read depth (string s) f ts h = (data_value.string s, first_string depth s ts, sym h)
field_read depth (number s) f ts h = (data_value.number h.0, first_number depth s ts ∙ ap (λ x. option_map {U = Data × List Token} (λ d. (d, ts)) (option_map data_value.number x)) h.1, sym h.2)
field_read depth (boolean b) f ts h = absurd h
field_read depth null f ts h = absurd h
field_read depth bad f ts h = absurd h

-- a text or a number stands as it is, where no colon follows
value_token : (t : Token) (f : Field) (ls : List Lexeme) → IsToken t f → begins_colon ls ≡ false → punctuate fresh (token t ∷ ls) ≡ t ∷ punctuate after_value ls
unfolding punctuate
value_token begin_object f ls h e = absurd h
value_token end_object f ls h e = absurd h
value_token begin_array f ls h e = absurd h
value_token end_array f ls h e = absurd h
value_token (key s) f ls h e = absurd h
value_token (string s) f ls h e = rw e
value_token (number s) f ls h e = refl
value_token (boolean b) f ls h e = absurd h
value_token null f ls h e = absurd h
value_token bad f ls h e = absurd h

-- a key, wherever one may stand
key_token : (p : Place) (k : List ℕ) (ls : List Lexeme) → may_begin p ≡ true → punctuate p (token (string k) ∷ colon ∷ ls) ≡ key k ∷ punctuate fresh ls
unfolding punctuate
key_token p k ls may = allowed (may_begin p) (key k) (λ q. punctuate q (colon ∷ ls)) Place.after_key may

-- a text or a number is read
pub token_read : (text rest : List ℕ) (t : Token) (f : Field) → lex between text ≡ token t ∷ lex between rest → IsToken t f → IsRead text f rest
token_read text rest t f e is none =
    let d = field_read 126 t f (punctuate after_value (lex between rest)) is in
    (d.0, ap (λ ls. converted of_json (value 126 (punctuate fresh ls))) e ∙ ap (λ ts. converted of_json (value 126 ts)) (value_token t f (lex between rest) is none) ∙ d.1, d.2)

-- a list of texts is read
pub list_read : (text inner rest : List ℕ) (os : List (Option (Bor (List ℕ)))) (f : Field) → field_view f ≡ data_value.array (list_view os) → lex between text ≡ token begin_array ∷ lex between inner → AreRead inner os rest
    → IsRead text f rest
unfolding punctuate
list_read text inner rest os f is e items none =
    let start = punctuate fresh (lex between inner) in (
      data_value.array items.0,
      ap (λ ls. converted of_json (value 126 (punctuate fresh ls))) e ∙ first_array 126 start (omega arith) ∙ ap (parse_map data_value.array) items.1,
      ap data_value.array items.2 ∙ sym is,
    )

-- ---- the members so far

-- the members that serde_json reads of the tokens `start` are those found, and then those of the text that is left
pub record Begun (start : List Token) (found : List (Bor (List ℕ) × Field)) (left : List ℕ) : Type 0 where
  pub place : Place
  pub may : may_begin place ≡ true
  pub turns : ℕ
  pub enough : length (punctuate place (lex between left)) ≤ turns
  pub old : Members
  pub same : converted (λ js. of_members js no_members) (members (value 126) (length start) start) ≡ converted (λ js. of_members js old) (members (value 126) turns (punctuate place (lex between left)))
  pub shown : shown_members old ≡ members_view found

-- none so far
pub begun_none : (left : List ℕ) → Begun (punctuate fresh (lex between left)) [] left
begun_none left = record { place = fresh; may = refl; turns = length (punctuate fresh (lex between left)); enough = omega arith; old = no_members; same = refl; shown = refl }

module _ (start : List Token) (found : List (Bor (List ℕ) × Field)) (left : List ℕ) (b : Begun start found left) where
  module _ (k : Bor (List ℕ)) (f : Field) (inner next : List ℕ) (named : lex between left ≡ token (string k.now) ∷ colon ∷ lex between inner) (valued : IsRead inner f next) where
    -- a member, and the lexemes after it
    one_read : begins_colon (lex between next) ≡ false
        → (turns : ℕ) × (length (punctuate after_value (lex between next)) ≤ turns) × ((old : Members)
        × (converted (λ js. of_members js no_members) (members (value 126) (length start) start) ≡ converted (λ js. of_members js old) (members (value 126) turns (punctuate after_value (lex between next))))
        × (shown_members old ≡ members_view (found ++ (k, f) ∷ [])))
    one_read none =
        let ts = punctuate b.place (lex between left) in
        let within = punctuate fresh (lex between inner) in
        let rest = punctuate after_value (lex between next) in
        let is_ts : ts ≡ key k.now ∷ within = ap (punctuate b.place) named ∙ key_token b.place k.now (lex between inner) b.may in
        let size : length ts ≡ length (key k.now ∷ within) = ap length is_ts in
        let read = valued none in
        let parsed = converted_some of_json (value 126 within) read.0 rest read.1 in
        let less : length rest < length within = skip_value-shorter 126 within rest (ap left_of parsed.1) in (
          b.turns - 1,
          omega (arith, b.enough, size, less),
          (
            put k.now read.0 b.old,
            b.same ∙ member_read (value 126) b.old b.turns k.now ts within rest read.0 (omega (arith, b.enough, size)) (ap read_key is_ts) read.1,
            members_grow b.old k read.0 found f b.shown read.2,
          ),
        )

    -- another member follows
    pub begun_more : (more : List ℕ) → lex between next ≡ comma ∷ lex between more → Begun start (found ++ (k, f) ∷ []) more
    unfolding punctuate
    begun_more more after =
        let one = one_read (ap begins_colon after) in
        let there : punctuate after_value (lex between next) ≡ punctuate after_comma (lex between more) = ap (punctuate after_value) after in
        record {
          place = after_comma;
          may = refl;
          turns = one.0;
          enough = omega (arith, one.1, ap length there);
          old = one.2.0;
          same = one.2.1 ∙ ap (λ ts. converted (λ js. of_members js one.2.0) (members (value 126) one.0 ts)) there;
          shown = one.2.2;
        }

    -- the object ends
    pub begun_last : lex between next ≡ token end_object ∷ []
        → (ms : Members) × (converted (λ js. of_members js no_members) (members (value 126) (length start) start) ≡ Some (ms, [])) × (shown_members ms ≡ members_view (found ++ (k, f) ∷ []))
    unfolding punctuate
    begun_last after =
        let one = one_read (ap begins_colon after) in
        let there : punctuate after_value (lex between next) ≡ end_object ∷ [] = ap (punctuate after_value) after in
        (one.2.0, one.2.1 ∙ members_over (value 126) one.2.0 one.0 _ [] one.1 (ap read_key there), one.2.2)

-- a value with no token after it is the text's
text_read : (text : List ℕ) (d : Data) → converted of_json (value max_depth (tokens text)) ≡ Some (d, []) → read text ≡ Some d
text_read text d e =
    let j = converted_some of_json (value max_depth (tokens text)) d [] e in
    ap (λ o. option_and_then of_json (option_and_then (λ p. if_last p.0 p.1) o)) j.1 ∙ j.2

-- an object with these members
pub object_read : (text left : List ℕ) (ms : Members) → text ≡ 123 ∷ left
    → converted (λ js. of_members js no_members) (members (value 126) (length (punctuate fresh (lex between left))) (punctuate fresh (lex between left))) ≡ Some (ms, [])
    → read text ≡ Some (object ms)
unfolding punctuate lex
object_read text left ms e found = text_read text (object ms) (ap (λ t. converted of_json (value 127 (punctuate fresh (lex between t)))) e ∙ first_object 127 (punctuate fresh (lex between left)) (omega arith) ∙ ap (parse_map object) found)
