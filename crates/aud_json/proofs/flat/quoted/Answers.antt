use Rattle.std.proofs.Common.{◌≡◌, ◌∷◌, arith}
use Rattle.aud_json.proofs.Strings.{lex_string}
use Rattle.aud_json.proofs.flat.quoted.Goals as goal

pub returns-clause-read : goal.returns-clause-read
returns-clause-read c =
    let quoted : c.args.text.now ≡ 34 ∷ c.in_ok-after.field-0.now = grind arith in
    let text = c.in_ok-found in
    lex_string _ _ text.found.now text.rest.now quoted text.ensures.read.0 text.ensures.read.1
