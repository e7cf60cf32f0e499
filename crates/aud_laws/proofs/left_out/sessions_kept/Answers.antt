use Rattle.aud_laws.proofs.MadeOther.Laws.{part_alike, needed-kept, part-is}
use Rattle.aud_laws.proofs.left_out.sessions_kept.Goals as goal

pub returns : goal.returns
returns c = record { alike = part_alike; needed = needed-kept; recording = part-is }
