-- The items of a list of texts, one after another, and their tokens.
use Rattle.std.proofs.Common.{◌≡◌, ℕ, ◌-◌, ◌≤◌, Bool, true, false, List, [], ◌∷◌, ◌++◌, length, Option, Some, Bor, refl, ap, ◌∙◌, arith}
use Rattle.json.specs.Token.{Token, end_array, string}
use Rattle.json.specs.Json.{after_end_array, parse_map, items, value}
use Rattle.json.specs.Lex.{Lexeme, token, comma, lex, between, Place, fresh, after_value, after_comma, begins_colon, may_begin, if_allowed, punctuate}
use Rattle.serde_json.specs.Data as data_value
use Rattle.serde_json.specs.Data.{Data, Items, no_items, item}
use Rattle.serde_json.specs.Read.{of_json, of_items, converted}
use Rattle.aud_json.specs.Shown.{shown_items}
use Rattle.aud_json.specs.View.{list_view}
use Rattle.aud_json.proofs.First.{first_string}
use Rattle.aud_json.proofs.Growing.{items_after, item_pushed, items_after-no_items, one_more_item, none_before, list_grows}
use Rattle.aud_json.proofs.Reading.{item_read, items_over}

-- the items that serde_json reads of the tokens `start` are those found, and then those of the text that is left
pub record Listed (start : List Token) (found : List (Option (Bor (List ℕ)))) (left : List ℕ) : Type 0 where
  pub place : Place
  pub may : may_begin place ≡ true
  pub turns : ℕ
  pub enough : length (punctuate place (lex between left)) ≤ turns
  pub old : Items
  pub same : converted of_items (items (value 125) (length start) start) ≡ parse_map (items_after old) (converted of_items (items (value 125) turns (punctuate place (lex between left))))
  pub shown : shown_items old ≡ list_view found

-- none so far
pub listed_none : (left : List ℕ) → Listed (punctuate fresh (lex between left)) [] left
listed_none left = record { place = fresh; may = refl; turns = length (punctuate fresh (lex between left)); enough = omega arith; old = no_items; same = none_before _; shown = refl }

-- a token that may stand here stands as it is
pub allowed : (b : Bool) (t : Token) (k : Place → List Token) (next : Place) → b ≡ true → if_allowed b t k next ≡ t ∷ k next
allowed b t k next e = ap (λ x. if_allowed x t k next) e

-- an item's token, wherever an item may stand
text_token : (p : Place) (s : List ℕ) (ls : List Lexeme) → may_begin p ≡ true → begins_colon ls ≡ false → punctuate p (token (string s) ∷ ls) ≡ string s ∷ punctuate after_value ls
unfolding punctuate
text_token p s ls may e = rw e (allowed (may_begin p) (string s) (λ q. punctuate q ls) after_value may)

module _ (start : List Token) (found : List (Option (Bor (List ℕ)))) (left : List ℕ) (b : Listed start found left) (s : Bor (List ℕ)) where
  one_read : (ls : List Lexeme) → begins_colon ls ≡ false → lex between left ≡ token (string s.now) ∷ ls
      → (turns : ℕ) × (length (punctuate after_value ls) ≤ turns) × ((old : Items)
      × (converted of_items (items (value 125) (length start) start) ≡ parse_map (items_after old) (converted of_items (items (value 125) turns (punctuate after_value ls))))
      × (shown_items old ≡ list_view (found ++ Some s ∷ [])))
  one_read ls none e =
      let ts = punctuate b.place (lex between left) in
      let rest = punctuate after_value ls in
      let is_ts : ts ≡ string s.now ∷ rest = ap (punctuate b.place) e ∙ text_token b.place s.now ls b.may none in
      let size : length ts ≡ length (string s.now ∷ rest) = ap length is_ts in
      let d = data_value.string s.now in
      let turn = item_read (value 125) b.turns ts rest d (omega (arith, b.enough, size)) (ap after_end_array is_ts) (ap (λ l. converted of_json (value 125 l)) is_ts ∙ first_string 125 s.now rest) in (
        b.turns - 1,
        omega (arith, b.enough, size),
        (
          item_pushed b.old d,
          b.same ∙ ap (parse_map (items_after b.old)) turn ∙ one_more_item b.old d _,
          list_grows b.old d found (Some s) b.shown refl,
        ),
      )

  module _ (next : List ℕ) (e : lex between left ≡ token (string s.now) ∷ lex between next) where
    -- another item follows
    pub listed_more : (more : List ℕ) → lex between next ≡ comma ∷ lex between more → Listed start (found ++ Some s ∷ []) more
    unfolding punctuate
    listed_more more after =
        let one = one_read (comma ∷ lex between more) refl (e ∙ ap (λ ls. token (string s.now) ∷ ls) after) in
        record { place = after_comma; may = refl; turns = one.0; enough = one.1; old = one.2.0; same = one.2.1; shown = one.2.2 }

    -- the list ends
    pub listed_last : (outside : List ℕ) → lex between next ≡ token end_array ∷ lex between outside
        → (ds : Items) × (converted of_items (items (value 125) (length start) start) ≡ Some (ds, punctuate after_value (lex between outside))) × (shown_items ds ≡ list_view (found ++ Some s ∷ []))
    unfolding punctuate
    listed_last outside after =
        let one = one_read (token end_array ∷ lex between outside) refl (e ∙ ap (λ ls. token (string s.now) ∷ ls) after) in
        let r = punctuate after_value (lex between outside) in
        (one.2.0, one.2.1 ∙ ap (parse_map (items_after one.2.0)) (items_over (value 125) one.0 (end_array ∷ r) r one.1 refl) ∙ ap (λ ds. Some (ds, r)) (items_after-no_items one.2.0), one.2.2)
