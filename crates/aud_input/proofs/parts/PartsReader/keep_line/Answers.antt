use Rattle.aud_input.proofs.GivenLemmas.{among-before}
use Rattle.aud_input.proofs.parts.PartsReader.keep_line.Goals as goal

pub returns-in_ok-push-clause-waits : goal.returns-in_ok-push-clause-waits
returns-in_ok-push-clause-waits c = rw (← c.self.view_is) (among-before c.self.inside.waiting c.args.line.now)
