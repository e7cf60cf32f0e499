use Rattle.aud_laws.proofs.LeftOut.Laws.{taps_alike}
use Rattle.aud_laws.proofs.left_out.taps_left_out.Goals as goal

pub returns : goal.returns
returns c = taps_alike
