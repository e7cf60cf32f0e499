use Rattle.std.proofs.Common.{◌≡◌, [], ◌∷◌, refl, ap, ◌∙◌, arith}
use Rattle.json.specs.Json.{parse_map, value}
use Rattle.json.specs.Reads.{token_of}
use Rattle.json.proofs.Grammar.{value_is, left_some, left_none}
use Rattle.serde_json.specs.Data.{null, boolean, number, string, array, object}
use Rattle.serde_json.specs.Read.{of_json, converted}
use Rattle.serde_json.specs.View.{number_view}
use Rattle.aud_json.proofs.First.{first_nothing, first_string, first_boolean, first_null, first_number, first_deep_array, first_deep_object, first_array, first_object}
use Rattle.aud_json.proofs.members.next_field.Goals as goal

pub returns-in_err-token-clause-refused : goal.returns-in_err-token-clause-refused
returns-in_err-token-clause-refused c refused =
    let empty : c.args.reader.now ≡ [] = grind arith in
    ap (λ ts. converted of_json (value c.args.depth ts)) empty ∙ first_nothing c.args.depth

pub returns-then-depth-eq0-clause-refused : goal.returns-then-depth-eq0-clause-refused
returns-then-depth-eq0-clause-refused c refused =
    let first : c.args.reader.now ≡ token_of c.in_ok-token.token ∷ c.next.new.self = grind arith in
    let none : c.args.depth ≡ 0 = omega arith in
    rw (first, none, c.in-BeginArray.is) (first_deep_array _)

pub returns-then-depth-eq0-2-clause-refused : goal.returns-then-depth-eq0-2-clause-refused
returns-then-depth-eq0-2-clause-refused c refused =
    let first : c.args.reader.now ≡ token_of c.in_ok-token.token ∷ c.next.new.self = grind arith in
    let none : c.args.depth ≡ 0 = omega arith in
    rw (first, none, c.in-BeginObject.is) (first_deep_object _)

pub returns-in_err-texts-in-BeginArray-clause-refused : goal.returns-in_err-texts-in-BeginArray-clause-refused
returns-in_err-texts-in-BeginArray-clause-refused c refused =
    let first : c.args.reader.now ≡ token_of c.in_ok-token.token ∷ c.next.new.self = grind arith in
    rw (first, c.in-BeginArray.is, first_array c.args.depth c.next.new.self (omega arith)) (ap (parse_map array) (c.texts.ensures.refused (grind arith)))

pub returns-in_err-pass_members-in-BeginObject-clause-refused : goal.returns-in_err-pass_members-in-BeginObject-clause-refused
returns-in_err-pass_members-in-BeginObject-clause-refused c refused =
    let first : c.args.reader.now ≡ token_of c.in_ok-token.token ∷ c.next.new.self = grind arith in
    rw (first, c.in-BeginObject.is, first_object c.args.depth c.next.new.self (omega arith)) (ap (parse_map object) (left_none _ c.in_err-pass_members-in-BeginObject.ensures.value))

pub returns-in-String-clause-shows : goal.returns-in-String-clause-shows
returns-in-String-clause-shows c =
    let first : c.args.reader.now ≡ token_of c.in_ok-token.token ∷ c.next.new.self = grind arith in
    (string c.in-String.text.now, rw (first, c.in-String.is) (first_string c.args.depth _ _), refl)

pub returns-in-Some-clause-shows : goal.returns-in-Some-clause-shows
returns-in-Some-clause-shows c =
    let first : c.args.reader.now ≡ token_of c.in_ok-token.token ∷ c.next.new.self = grind arith in
    (number (number_view c.in-Some.number), rw (first, c.in-Number.is, first_number, ← c.in-Some.ensures), refl)

pub returns-in-None-clause-refused : goal.returns-in-None-clause-refused
returns-in-None-clause-refused c refused =
    let first : c.args.reader.now ≡ token_of c.in_ok-token.token ∷ c.next.new.self = grind arith in
    rw (first, c.in-Number.is, first_number, ← c.in-None.ensures)

pub returns-in-Bool-clause-shows : goal.returns-in-Bool-clause-shows
returns-in-Bool-clause-shows c =
    let first : c.args.reader.now ≡ token_of c.in_ok-token.token ∷ c.next.new.self = grind arith in
    (boolean c.in-Bool.b, rw (first, c.in-Bool.is) (first_boolean c.args.depth _ _), refl)

pub returns-in-Null-clause-shows : goal.returns-in-Null-clause-shows
returns-in-Null-clause-shows c =
    let first : c.args.reader.now ≡ token_of c.in_ok-token.token ∷ c.next.new.self = grind arith in
    (null, rw (first, c.in-Null.is) (first_null c.args.depth _), refl)

pub returns-in-EndObject-clause-refused : goal.returns-in-EndObject-clause-refused
returns-in-EndObject-clause-refused c refused =
    let first : c.args.reader.now ≡ token_of c.in_ok-token.token ∷ c.next.new.self = grind arith in
    ap (converted of_json) (value_is c.args.depth c.args.reader.now) ∙ rw first (grind arith)

pub returns-in_ok-texts-in-BeginArray-clause-shows : goal.returns-in_ok-texts-in-BeginArray-clause-shows
returns-in_ok-texts-in-BeginArray-clause-shows c =
    let first : c.args.reader.now ≡ token_of c.in_ok-token.token ∷ c.next.new.self = grind arith in
    let found = c.in_ok-texts-in-BeginArray.ensures.shows in
    (array found.0, rw (first, c.in-BeginArray.is, first_array c.args.depth c.next.new.self (omega arith)) (ap (parse_map array) found.1), ap array found.2)

pub returns-in_ok-pass_members-in-BeginObject-clause-shows : goal.returns-in_ok-pass_members-in-BeginObject-clause-shows
returns-in_ok-pass_members-in-BeginObject-clause-shows c =
    let first : c.args.reader.now ≡ token_of c.in_ok-token.token ∷ c.next.new.self = grind arith in
    let found = left_some _ _ c.in_ok-pass_members-in-BeginObject.ensures.value in
    (object found.0, rw (first, c.in-BeginObject.is, first_object c.args.depth c.next.new.self (omega arith)) (ap (parse_map object) found.1), refl)
