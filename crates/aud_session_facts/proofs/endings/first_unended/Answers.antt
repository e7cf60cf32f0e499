use Rattle.std.proofs.Common.{◌≡◌, ◌+◌, suc, length, refl, arith}
use Rattle.std.specs.Option.{option_copied}
use Rattle.std.proofs.lemmas.Option.{slice_get_read}
use Rattle.aud_base.proofs.Lists.{got}
use Rattle.aud_session_facts.proofs.Sweeps.{begun-there}
use Rattle.aud_session_facts.proofs.Ends.{next-is}
use Rattle.aud_session_facts.proofs.endings.first_unended.Goals as goal

pub misfit_at_end-requires-clause-begun : goal.misfit_at_end-requires-clause-begun
misfit_at_end-requires-clause-begun c =
    begun-there c.args.logs.now c.args.pid.now c.args.turns.now c.requires.begun c.loop-number.number c.index-turns-number.result
    (slice_get_read c.args.turns.now (length c.args.turns.now) c.loop-number.number c.index-turns-number.result refl c.loop-number-test.true c.index-turns-number.is)

pub misfit_at_end-requires-clause-next : goal.misfit_at_end-requires-clause-next
misfit_at_end-requires-clause-next c =
    let next : c.loop-number.number + 1 ≡ suc c.loop-number.number = omega arith in
    next-is c.args.logs.now c.args.pid.now c.args.turns.now c.requires.begun c.loop-number.number (c.loop-number.number + 1) next (option_copied c.get.result)
    (got c.args.turns.now (c.loop-number.number + 1) c.get.result c.get.ensures.lookup.3)
