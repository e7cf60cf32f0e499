use Rattle.std.proofs.Common.{◌≡◌, drop, None}
use Rattle.aud_node.specs.OwnRecords.{own_numbers}
use Rattle.aud_causes.specs.Cleared.{first_cleared}
use Rattle.aud_causes.proofs.twice.cleared_on.Given as goal

-- the records to come give it
abbrev pub invariant-loop-number : goal.invariant-loop-number
invariant-loop-number l =
    first_cleared l.log.recs l.node l.broke (drop l.number-index l.number-items) ≡ first_cleared l.log.recs l.node None (own_numbers l.log.recs l.pid)
