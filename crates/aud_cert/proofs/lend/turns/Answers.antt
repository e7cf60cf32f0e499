use Rattle.std.proofs.lemmas.Grind.{common_steps}
use Rattle.std.proofs.Common.{arith}
use Rattle.std.proofs.lemmas.Result.{err_from_is_err_and}
use Rattle.aud_cert.specs.Reading.{turn_over}
use Rattle.aud_cert.proofs.Lists.{each-ok, each-fails}
use Rattle.aud_cert.proofs.lend.turns.Goals as goal

pub loop-parsed-preserved : goal.loop-parsed-preserved
loop-parsed-preserved c =
    let longer = each-ok (turn_over c.args.logs.now) _ _ _ _ c.loop-parsed.turns.items c.loop-parsed-test.true c.parsed-item.is c.in_ok-turn.ensures in
    grind (arith, common_steps)

pub returns-in_err-turn : goal.returns-in_err-turn
returns-in_err-turn c =
    let p = err_from_is_err_and c.from_residual.result c.from_residual.ensures.1 in
    rw (p.1, p.2, ← c.loop-parsed.invariant) (λ other. each-fails (turn_over c.args.logs.now) _ _ _ _ c.loop-parsed.turns.items c.loop-parsed-test.true c.parsed-item.is (c.in_err-turn.ensures other))
