use Rattle.std.proofs.Common.{◌≤◌, arith}
use Rattle.std.proofs.lemmas.Grind.{common_steps}
use Rattle.aud_explanation.proofs.PlainFront.{plain-shorter}
use Rattle.aud_explanation.proofs.text.page.front_len.Goals as goal

pub returns-then-n-most-clause-plain : goal.returns-then-n-most-clause-plain
returns-then-n-most-clause-plain c =
    let shorter : c.unwrap_or.result ≤ c.loop-n.n = grind (arith, common_steps) in
    plain-shorter c.args.bytes.now c.unwrap_or.result c.loop-n.n shorter c.loop-n.invariant.plain
