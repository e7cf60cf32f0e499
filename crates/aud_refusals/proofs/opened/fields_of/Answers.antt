use Rattle.std.proofs.Common.{Some, option_map, ap, ◌∙◌, sym, arith}
use Rattle.std.specs.Result.{result_ok}
use Rattle.serde_json.specs.Read.{read}
use Rattle.aud_json.specs.Shown.{shown}
use Rattle.aud_reader.specs.declared.fault.InputCode.TheVariants.{NotJson}
use Rattle.aud_reader.specs.Record.{json_of}
use Rattle.aud_tap.proofs.Json.{json_or-read, json_or-refused}
use Rattle.aud_refusals.proofs.opened.fields_of.Goals as goal

pub returns-in_default : goal.returns-in_default
unfolding json_of
returns-in_default c = ap (λ r. option_map shown (result_ok r)) (sym (json_or-refused NotJson c.args.bytes.now (λ utf8. absurd (c.in_default.ensures.cases.0 utf8))))

pub returns-in-Ok-read : goal.returns-in-Ok-read
unfolding json_of
returns-in-Ok-read c =
    let text = c.in-Ok.ensures.cases in
    let found = c.in-Ok-read.ensures.shows in
    let is = json_or-read NotJson c.args.bytes.now found.0 (text.1, ap read (sym text.0) ∙ found.1) in
    ap Some (sym found.2) ∙ ap (λ r. option_map shown (result_ok r)) (sym is)

pub returns-in-Err-NotJson : goal.returns-in-Err-NotJson
unfolding json_of
returns-in-Err-NotJson c =
    let text = c.in-Ok.ensures.cases in
    ap (λ r. option_map shown (result_ok r)) (sym (json_or-refused NotJson c.args.bytes.now (λ utf8. ap read (sym text.0) ∙ c.in-Err-NotJson.ensures.refused (grind arith))))
