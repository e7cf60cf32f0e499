use Rattle.std.proofs.lemmas.Grind.{common_steps}
use Rattle.std.proofs.Common.{arith}
use Rattle.std.proofs.lemmas.Result.{err_from_is_err_and}
use Rattle.aud_cert.specs.Parsed.{parsed_turn}
use Rattle.aud_cert.proofs.Lists.{each_item-ok, each_item-fails}
use Rattle.aud_cert.proofs.parsed.turns.Goals as goal

pub loop-d-preserved : goal.loop-d-preserved
loop-d-preserved c =
    let longer = each_item-ok parsed_turn _ _ _ _ c.loop-d.turns.items c.loop-d-test.true c.d-item.is c.in_ok-turn.ensures in
    grind (arith, common_steps)

pub returns-in_err-turn : goal.returns-in_err-turn
returns-in_err-turn c =
    let p = err_from_is_err_and c.from_residual.result c.from_residual.ensures.1 in
    rw (p.1, p.2, ← c.loop-d.invariant) (λ other. each_item-fails parsed_turn _ _ _ _ c.loop-d.turns.items c.loop-d-test.true c.d-item.is (c.in_err-turn.ensures other))
