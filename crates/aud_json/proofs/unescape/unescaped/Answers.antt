use Rattle.std.proofs.lemmas.Str.{IsCharBoundary-after_ascii}
use Rattle.std.proofs.Common.{arith}
use Rattle.aud_json.proofs.unescape.unescaped.Goals as goal

pub range_from-requires : goal.range_from-requires
range_from-requires c some =
    let place = c.in_ok-len.ensures.places in
    IsCharBoundary-after_ascii c.args.text.now c.in_ok-len.quote c.utf8.text place.1 (omega (arith, place.2))
