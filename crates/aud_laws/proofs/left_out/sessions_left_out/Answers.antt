use Rattle.aud_laws.proofs.LeftOut.Laws.{sessions_alike}
use Rattle.aud_laws.proofs.left_out.sessions_left_out.Goals as goal

pub returns : goal.returns
returns c = sessions_alike
