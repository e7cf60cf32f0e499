use Rattle.std.proofs.Common.{◌<◌, length, get_or, arith}
use Rattle.std.proofs.lemmas.Str.{IsCharBoundary-after_ascii}
use Rattle.aud_json.proofs.flat.after.Goals as goal

pub range_from-requires : goal.range_from-requires
range_from-requires c some =
    let text = c.args.text.now in
    let within : 0 < length text = grind arith in
    let ascii : get_or text 0 0 < 128 = grind arith in
    IsCharBoundary-after_ascii text 0 c.utf8.text within ascii
