use Rattle.std.proofs.Common.{rules, refl}
use Rattle.std.proofs.lemmas.Str.{is_utf8-from_IsUtf8}
use Rattle.aud_refusals.proofs.TextsLemmas.{is_utf8-not}
use Rattle.aud_refusals.proofs.no_json.bytes_front.Goals as goal

pub returns-in_default : goal.returns-in_default
returns-in_default c = let no = is_utf8-not c.args.bytes.now c.in_default.ensures.cases.0 in rw no refl

pub returns-in-Some : goal.returns-in-Some
returns-in-Some c =
    let is = is_utf8-from_IsUtf8 c.args.bytes.now c.in-Ok.ensures.cases.1 in
    rw (is, ← c.in-Ok.ensures.cases.0) (search rules)

pub returns : goal.returns
returns c =
    let is = is_utf8-from_IsUtf8 c.args.bytes.now c.in-Ok.ensures.cases.1 in
    rw (is, ← c.in-Ok.ensures.cases.0) (search rules)
