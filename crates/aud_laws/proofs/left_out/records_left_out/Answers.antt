use Rattle.aud_laws.proofs.LeftOut.Laws.{records_alike, first-kept-all}
use Rattle.aud_laws.proofs.left_out.records_left_out.Goals as goal

pub returns : goal.returns
returns c = record { alike = records_alike; started = first-kept-all }
