use Rattle.aud_rooms.proofs.Merged.{none_below}
use Rattle.aud_rooms.proofs.merge.count_below.Goals as goal

pub returns-in-None-clause-count : goal.returns-in-None-clause-count
returns-in-None-clause-count c = none_below c.args.number c.args.numbers.now c.in-None.ensures
