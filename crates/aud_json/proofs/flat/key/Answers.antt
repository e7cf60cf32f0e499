use Rattle.std.proofs.Common.{◌≡◌, [], ◌∷◌, take, drop, get_or, refl, sym, ap, ◌∙◌, subst, arith}
use Rattle.std.proofs.lemmas.List.{drop_more}
use Rattle.std.proofs.lemmas.Str.{IsCharBoundary-after_ascii}
use Rattle.json.specs.Token.{string}
use Rattle.json.specs.Lex.{between, colon, lex, token}
use Rattle.aud_json.specs.Private.Flat.{IsOneLetter}
use Rattle.aud_json.proofs.Strings.{lex_one_letter, lex_string, lex_colon}
use Rattle.aud_json.proofs.flat.key.Goals as goal

pub range-requires-clause-start_boundary : goal.range-requires-clause-start_boundary
range-requires-clause-start_boundary c some =
    let text = c.args.text.now in
    let k : IsOneLetter text = subst IsOneLetter c.as_bytes.ensures.value (c.if-is_one_letter.ensures refl) in
    IsCharBoundary-after_ascii text 0 c.utf8.text (omega (arith, k.long)) (omega (arith, k.opened))

pub range_from-requires : goal.range_from-requires
range_from-requires c some =
    let text = c.args.text.now in
    let k : IsOneLetter text = subst IsOneLetter c.as_bytes.ensures.value (c.if-is_one_letter.ensures refl) in
    IsCharBoundary-after_ascii text 3 c.utf8.text (omega (arith, k.long)) (omega (arith, k.colon))

pub returns-then-is_one_letter-clause-read : goal.returns-then-is_one_letter-clause-read
returns-then-is_one_letter-clause-read c =
    let text = c.args.text.now in
    let k : IsOneLetter text = subst IsOneLetter c.as_bytes.ensures.value (c.if-is_one_letter.ensures refl) in
    let letter : take 1 (drop 1 text) ≡ get_or text 1 0 ∷ [] = ap (take 1) (drop_more text 1 0 (omega (arith, k.long))) in
    let front : c.range.result.now ≡ take 1 (drop 1 text) = grind arith in
    let rest : c.range_from.result.now ≡ drop 4 text = grind arith in
    lex_one_letter text k ∙ ap (λ s. token (string s) ∷ colon ∷ lex between (drop 4 text)) (sym (front ∙ letter)) ∙ ap (λ t. token (string c.range.result.now) ∷ colon ∷ lex between t) (sym rest)

pub returns-clause-read : goal.returns-clause-read
returns-clause-read c =
    let quoted : c.args.text.now ≡ 34 ∷ c.in_ok-after.field-0.now = grind arith in
    let read = c.in_ok-key.ensures.read in
    let colon : c.in_ok-key.rest.now ≡ 58 ∷ c.in_ok-after-2.field-0.now = grind arith in
    lex_string _ _ c.in_ok-key.key.now c.in_ok-key.rest.now quoted read.0 read.1 ∙ ap (λ ls. token (string c.in_ok-key.key.now) ∷ ls) (lex_colon _ _ colon)
