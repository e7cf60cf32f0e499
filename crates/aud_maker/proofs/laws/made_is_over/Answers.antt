use Rattle.aud_maker.proofs.Over.{over, turns-there, some-turns}
use Rattle.aud_maker.proofs.laws.made_is_over.Goals as goal

pub returns : goal.returns
returns c = record { over = over; turns = turns-there; some = some-turns }
