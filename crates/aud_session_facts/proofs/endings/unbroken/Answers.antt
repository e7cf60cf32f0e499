use Rattle.aud_session_facts.proofs.Ends.{unbroken}
use Rattle.aud_session_facts.proofs.endings.unbroken.Goals as goal

pub returns-in-Some : goal.returns-in-Some
returns-in-Some c =
    rw (c.first_of-begin.ensures, c.first_of-back.ensures)
    (record { unbroken = unbroken c.args.logs.now c.args.pid.now c.args.number c.args.turn.now c.args.next.now c.requires.lasting c.requires.next; breaks = c.in-Some.ensures })

pub returns-in-None : goal.returns-in-None
returns-in-None c =
    rw (c.first_of-begin.ensures, c.first_of-back.ensures)
    (record { unbroken = unbroken c.args.logs.now c.args.pid.now c.args.number c.args.turn.now c.args.next.now c.requires.lasting c.requires.next; no_break = c.in-None.ensures })
