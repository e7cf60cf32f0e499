use Rattle.aud_base.proofs.FirstTexts.{text-known, text-inserted}
use Rattle.aud_parts.proofs.plan.sessions.Sessions.mention.Goals as goal

pub returns-then-contains : goal.returns-then-contains
returns-then-contains c = rw (← c.self.view_is) (text-known c.self.inside.pids.keys c.args.pid.now c.if-contains.ensures)

pub returns : goal.returns
returns c =
    rw (← c.self.view_is)
    (text-inserted c.self.inside.pids.keys c.insert.new.self.keys c.in_ok-owned.owned c.args.pid.now c.in_ok-owned.ensures.ok c.if-contains.ensures c.in_ok-insert.ensures.keys)
