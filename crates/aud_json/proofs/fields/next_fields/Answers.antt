use Rattle.std.proofs.Common.{◌≡◌, [], ◌∷◌, false, sym, ap, ◌∙◌, arith}
use Rattle.json.specs.Json.{parse_map, value}
use Rattle.json.specs.Reads.{token_of}
use Rattle.json.proofs.Grammar.{left_some}
use Rattle.serde_json.specs.Data.{object, no_members}
use Rattle.serde_json.specs.Read.{of_json, converted}
use Rattle.aud_json.specs.View.{members_view}
use Rattle.aud_json.proofs.First.{first_nothing, first_object, opens_object, no_object_first}
use Rattle.aud_json.proofs.fields.next_fields.Goals as goal

pub returns-in_err-token-clause-refused : goal.returns-in_err-token-clause-refused
returns-in_err-token-clause-refused c refused =
    let empty : c.args.reader.now ≡ [] = grind arith in
    ap (λ ts. converted of_json (value 127 ts)) empty ∙ first_nothing 127

pub returns-in_err-all_members-in-BeginObject-clause-refused : goal.returns-in_err-all_members-in-BeginObject-clause-refused
returns-in_err-all_members-in-BeginObject-clause-refused c refused =
    let first : c.args.reader.now ≡ token_of c.in_ok-token.token ∷ c.next.new.self = grind arith in
    rw (first, c.in-BeginObject.is, first_object 127 c.next.new.self (omega arith)) (ap (parse_map object) (c.all_members.ensures.refused (grind arith)))

pub returns-in_ok-all_members-in-BeginObject-clause-shows : goal.returns-in_ok-all_members-in-BeginObject-clause-shows
returns-in_ok-all_members-in-BeginObject-clause-shows c =
    let first : c.args.reader.now ≡ token_of c.in_ok-token.token ∷ c.next.new.self = grind arith in
    let found = c.in_ok-all_members-in-BeginObject.ensures.shows in
    (object found.0, rw (first, c.in-BeginObject.is, first_object 127 c.next.new.self (omega arith)) (ap (parse_map object) found.1), ap object found.2)

pub returns-in_ok-pass_from-in-String : goal.returns-in_ok-pass_from-in-String
returns-in_ok-pass_from-in-String c =
    let first : c.args.reader.now ≡ token_of c.in_ok-token.token ∷ c.next.new.self = grind arith in
    let found = left_some _ _ c.in_ok-pass_from-in-String.ensures.value in
    let other : opens_object (token_of c.in_ok-token.token) ≡ false = grind arith in
    let none : members_view c.new.result.items ≡ no_members = ap members_view c.new.ensures.items in
    record {
      shows = (found.0, ap (λ ts. converted of_json (value 127 ts)) first ∙ found.1, no_object_first 127 _ _ _ found.0 other found.1 ∙ ap object (sym none));
      refused = λ e. absurd (cc);
    }
