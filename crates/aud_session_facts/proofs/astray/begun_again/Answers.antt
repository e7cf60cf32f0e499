use Rattle.std.proofs.Common.{sym, Some, None}
use Rattle.aud_base.proofs.Lists.{got}
use Rattle.aud_session_facts.proofs.Sweeps.{twice, missing}
use Rattle.aud_session_facts.proofs.astray.begun_again.Goals as goal

pub returns-in-Some : goal.returns-in-Some
returns-in-Some c =
    rw c.first_of.ensures
    (twice c.args.logs.now c.args.pid.now c.args.turns.now c.requires.begun c.args.turn c.args.here c.in-Some.first.now c.requires.begins c.requires.out (sym (got c.args.turns.now c.args.turn (Some c.in-Some.first) c.in-Some.ensures.lookup.3)))

pub returns-in-None : goal.returns-in-None
returns-in-None c =
    missing c.args.logs.now c.args.pid.now c.args.turns.now c.requires.begun c.args.turn c.args.here c.requires.begins (sym (got c.args.turns.now c.args.turn None c.in-None.ensures.lookup.3))
