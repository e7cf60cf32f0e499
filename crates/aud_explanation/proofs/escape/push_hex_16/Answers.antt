use Rattle.std.proofs.Common.{◌/◌, ◌%◌, false, arith}
use Rattle.std.proofs.lemmas.Fmt.{hex_byte}
use Rattle.std.proofs.lemmas.Grind.{common_steps}
use Rattle.aud_explanation.proofs.escape.push_hex_16.Goals as goal

pub returns : goal.returns
returns c =
    let high = hex_byte false (c.args.number / 256) (omega (arith, c.requires)) in
    let low = hex_byte false (c.args.number % 256) (omega arith) in
    grind (arith, common_steps)
