use Rattle.std.proofs.Common.{◌≡◌, ◌+◌, ◌<◌, length, take, drop, get_or, Some, sym, ap, ◌∙◌, arith}
use Rattle.std.proofs.lemmas.Str.{IsCharBoundary-after_ascii}
use Rattle.std.specs.List.{prefix_len}
use Rattle.json.specs.Lex.{between, lex}
use Rattle.json.specs.Run.{is_plain}
use Rattle.aud_json.proofs.Strings.{passed_plain, passed_end}
use Rattle.aud_json.proofs.flat.plain_text.Goals as goal

pub range_from-requires : goal.range_from-requires
range_from-requires c some =
    let text = c.args.text.now in
    let end = c.plain_end-end.result in
    let within : end < length text = grind arith in
    let ascii : get_or text end 0 < 128 = grind arith in
    IsCharBoundary-after_ascii text end c.utf8.text within ascii

pub returns-clause-read : goal.returns-clause-read
returns-clause-read c =
    let text = c.args.text.now in
    let end = c.plain_end-end.result in
    let within : end < length text = grind arith in
    let quote : get_or text end 0 ≡ 34 = grind arith in
    let run : end ≡ prefix_len is_plain text = c.plain_end-end.ensures.value ∙ ap (prefix_len is_plain) c.as_bytes-bytes.ensures.value in
    let front : c.range.result.now ≡ take end text = grind arith in
    let rest : c.range_from.result.now ≡ drop (end + 1) text = grind arith in
    let both = passed_end text (take end text) end (passed_plain text end (omega arith)) within quote in
    (both.0 ∙ ap Some (sym front), both.1 ∙ ap (lex between) (sym rest))
