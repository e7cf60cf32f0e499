use Rattle.std.proofs.Common.{sym}
use Rattle.aud_session_facts.proofs.Ends.{open-inside, to-length}
use Rattle.aud_session_facts.proofs.endings.inside.Goals as goal

pub returns-in-Some : goal.returns-in-Some
returns-in-Some c =
    rw (c.first_of.ensures, ← c.turn.view_is)
    (open-inside c.args.logs.now c.args.pid.now c.args.number (record { node = c.turn.inside.node; from = c.turn.inside.from; to = c.turn.inside.to }) c.in-Some.field-0.now (rw (← c.turn.view_is) at c.requires) (sym c.in-Some.ensures))

pub returns-in-None : goal.returns-in-None
returns-in-None c =
    rw (← c.turn.view_is)
    (to-length c.args.logs.now c.args.pid.now c.args.number (record { node = c.turn.inside.node; from = c.turn.inside.from; to = c.turn.inside.to }) (rw (← c.turn.view_is) at c.requires) (sym c.in-None.ensures))
