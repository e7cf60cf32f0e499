use Rattle.aud_laws.proofs.MadeOther.Laws.{others_alike, others-are}
use Rattle.aud_laws.proofs.left_out.entries_made_other.Goals as goal

pub returns : goal.returns
returns c = record { alike = others_alike; recording = others-are }
