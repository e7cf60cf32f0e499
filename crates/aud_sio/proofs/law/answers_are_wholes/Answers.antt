use Rattle.aud_sio.proofs.Calling.{answers_are_wholes}
use Rattle.aud_sio.proofs.law.answers_are_wholes.Goals as goal

pub returns : goal.returns
returns c = answers_are_wholes
