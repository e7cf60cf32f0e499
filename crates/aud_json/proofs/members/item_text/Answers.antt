use Rattle.std.proofs.Common.{◌≡◌, [], ◌∷◌, suc, length, None, refl, ap, ◌∙◌, arith}
use Rattle.json.specs.Json.{value}
use Rattle.json.specs.Reads.{token_of}
use Rattle.json.proofs.Grammar.{left_some}
use Rattle.serde_json.specs.Data.{string, null}
use Rattle.serde_json.specs.Read.{of_json, converted}
use Rattle.aud_json.proofs.First.{first_nothing, first_string, token_item, item_first}
use Rattle.aud_json.proofs.members.item_text.Goals as goal

pub returns-in_err-token-clause-refused : goal.returns-in_err-token-clause-refused
returns-in_err-token-clause-refused c =
    let empty : c.args.reader.now ≡ [] = grind arith in
    let none : converted of_json (value c.args.depth c.args.reader.now) ≡ None = ap (λ ts. converted of_json (value c.args.depth ts)) empty ∙ first_nothing c.args.depth in
    grind (arith, none)

pub returns-in-String-clause-shows : goal.returns-in-String-clause-shows
returns-in-String-clause-shows c =
    let first : c.args.reader.now ≡ token_of c.in_ok-token.token ∷ c.next.new.self = grind arith in
    (string c.in-String.text.now, rw (first, c.in-String.is) (first_string c.args.depth _ _), refl)

pub returns-in_ok-pass_from-in-BeginObject : goal.returns-in_ok-pass_from-in-BeginObject
returns-in_ok-pass_from-in-BeginObject c =
    let first : c.args.reader.now ≡ token_of c.in_ok-token.token ∷ c.next.new.self = grind arith in
    let found = left_some _ _ c.in_ok-pass_from-in-BeginObject.ensures.value in
    let other : token_item (token_of c.in_ok-token.token) ≡ null = grind arith in
    let one : length c.args.reader.now ≡ suc (length c.next.new.self) = ap length first in
    record {
      shows = (found.0, ap (λ ts. converted of_json (value c.args.depth ts)) first ∙ found.1, item_first c.args.depth _ _ _ found.0 found.1 ∙ other);
      shorter = omega (arith, one, c.in_ok-pass_from-in-BeginObject.ensures.shorter);
      refused = tt;
    }
