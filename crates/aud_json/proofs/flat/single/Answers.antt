use Rattle.std.proofs.Common.{◌≡◌, ◌∷◌, refl, arith}
use Rattle.json.specs.Token.{string}
use Rattle.aud_json.proofs.Strings.{lex_string}
use Rattle.aud_json.proofs.flat.single.Goals as goal

pub returns-in-Some-plain_text-clause-read : goal.returns-in-Some-plain_text-clause-read
returns-in-Some-plain_text-clause-read c =
    let quoted : c.args.text.now ≡ 34 ∷ c.in-Some.inner.now = grind arith in
    let found = c.in-Some-plain_text in
    (string found.text.now, lex_string _ _ found.text.now found.rest.now quoted found.ensures.read.0 found.ensures.read.1, refl)

pub returns-clause-read : goal.returns-clause-read
returns-clause-read c =
    let quoted : c.args.text.now ≡ 34 ∷ c.in-Some.inner.now = grind arith in
    let found = c.in_ok-text in
    (string found.text.now, lex_string _ _ found.text.now found.rest.now quoted found.ensures.read.0 found.ensures.read.1, refl)
