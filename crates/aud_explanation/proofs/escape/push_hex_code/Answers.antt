use Rattle.std.proofs.Common.{◌/◌, false, arith}
use Rattle.std.proofs.lemmas.Fmt.{hex_byte}
use Rattle.std.proofs.lemmas.Grind.{common_steps}
use Rattle.aud_explanation.proofs.escape.push_hex_code.Goals as goal

pub returns : goal.returns
returns c =
    let high = hex_byte false (c.args.code / 65536) (omega (arith, c.requires)) in
    grind (arith, common_steps)
