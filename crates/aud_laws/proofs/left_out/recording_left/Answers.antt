use Rattle.aud_laws.proofs.LeftOut.Laws.{recording-is}
use Rattle.aud_laws.proofs.left_out.recording_left.Goals as goal

pub returns : goal.returns
returns c = recording-is
