use Rattle.std.proofs.Common.{rules}
use Rattle.std.proofs.lemmas.Str.{is_utf8-from_IsUtf8}
use Rattle.aud_refusals.proofs.TextsLemmas.{is_utf8-not}
use Rattle.aud_refusals.proofs.json_help.push_bytes_help.Goals as goal

pub returns-in-Ok : goal.returns-in-Ok
returns-in-Ok c =
    let is = is_utf8-from_IsUtf8 c.args.bytes.now c.in-Ok.ensures.cases.1 in
    rw (is, ← c.in-Ok.ensures.cases.0) c.push_text_help.ensures

pub returns-in-Err : goal.returns-in-Err
returns-in-Err c =
    let no = is_utf8-not c.args.bytes.now c.in-Err.ensures.cases.0 in
    rw (no, ← c.in-Err.ensures.valid_len, ← c.valid_up_to.ensures) (search rules)
