use Rattle.std.proofs.Common.{sym, subst}
use Rattle.std.specs.List.Sorted.{IsNonDecreasing}
use Rattle.aud_rooms.proofs.OwnNumbers.{own_ascend}
use Rattle.aud_rooms.proofs.turn_place.TurnPlace.own.Goals as goal

pub between-requires : goal.between-requires
between-requires c = subst IsNonDecreasing (sym c.own.ensures) (own_ascend c.in-Some.log.now.recs c.args.pid.now)
