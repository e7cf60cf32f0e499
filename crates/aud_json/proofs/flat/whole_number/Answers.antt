use Rattle.std.proofs.Common.{◌≡◌, ◌<◌, ◌⊎◌, ◌∷◌, length, take, drop, get_or, sym, ap, ◌∙◌, refl, arith}
use Rattle.std.specs.List.{prefix_len}
use Rattle.std.specs.Char.{is_ascii_digit}
use Rattle.json.specs.Token.{number}
use Rattle.json.specs.Lex.{between, lex, token}
use Rattle.serde_json.specs.Read.{number_of}
use Rattle.serde_json.specs.View.{number_view}
use Rattle.aud_json.proofs.Numbers.{lex_digits}
use Rattle.aud_json.proofs.flat.whole_number.Goals as goal

pub returns-clause-read : goal.returns-clause-read
returns-clause-read c =
    let text = c.args.text.now in
    let n = c.digits-count.result in
    let is : n ≡ prefix_len is_ascii_digit text = grind arith in
    let within : n < length text = grind arith in
    let lone : get_or text 0 0 ≡ 48 → n ≡ 1 = λ e. grind arith in
    let ends : (get_or text n 0 ≡ 44) ⊎ (get_or text n 0 ≡ 125) = grind arith in
    let front : c.range.result.now ≡ take n text = grind arith in
    let rest : c.range_from.result.now ≡ drop n text = grind arith in (
      number (take n text),
      lex_digits text n is (omega arith) lone within ends ∙ ap (λ t. token (number (take n text)) ∷ lex between t) (sym rest),
      (number_view c.in_ok-number.number, ap number_of (sym front) ∙ sym c.in_ok-number.ensures, refl),
    )
