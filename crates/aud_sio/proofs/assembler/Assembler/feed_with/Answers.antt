use Rattle.aud_sio.proofs.Halves.{half_waits}
use Rattle.aud_sio.proofs.assembler.Assembler.feed_with.Goals as goal

pub returns-in-Control-clause-waits : goal.returns-in-Control-clause-waits
returns-in-Control-clause-waits c = half_waits c.take-half.result
