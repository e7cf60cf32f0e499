use Rattle.std.proofs.Common.{◌≡◌, flat_map}
use Rattle.aud_node.specs.Lists.{numbers_from}
use Rattle.aud_upgrade.specs.Upgraded.{takes_next, took_next, upgraded_at}
use Rattle.aud_upgrade.proofs.log.upgraded_log.Given as goal

abbrev pub invariant-loop-number : goal.invariant-loop-number
invariant-loop-number l =
    (l.kept ≡ flat_map (upgraded_at l.joins l.log.stream l.log.recs) (numbers_from 0 l.number))
    × (l.before ≡ took_next l.joins l.log.stream l.log.recs l.number)
    × (l.here ≡ takes_next l.joins l.log.stream l.log.recs l.number)
