use Rattle.aud_maker.proofs.FirstFault.{is_opened}
use Rattle.aud_maker.proofs.begun.is_opened.Goals as goal

pub returns : goal.returns
returns c = rw (c.is_some.ensures, c.turn_at.ensures, c.requires) (is_opened c.args.logs.now c.args.pid.now)
