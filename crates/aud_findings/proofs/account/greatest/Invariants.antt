use Rattle.std.proofs.Common.{◌≡◌, drop, max}
use Rattle.aud_findings.specs.Received.{greatest}
use Rattle.aud_findings.proofs.account.greatest.Given as goal

-- the greatest so far and of those to come is the greatest
abbrev pub invariant-loop-position : goal.invariant-loop-position
invariant-loop-position l = max l.greatest (greatest (drop l.position-index l.positions)) ≡ greatest l.positions
