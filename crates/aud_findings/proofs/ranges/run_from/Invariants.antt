use Rattle.std.proofs.Common.{◌≡◌, ◌+◌, drop}
use Rattle.aud_findings.specs.Also.{following}
use Rattle.aud_findings.proofs.ranges.run_from.Given as goal

-- so many so far, and as many more as go on from the last
abbrev pub invariant-loop-position : goal.invariant-loop-position
invariant-loop-position l =
    (l.last ≡ l.first + l.count) × (l.count ≡ l.position-index) × (l.count + following l.last (drop l.count l.positions) ≡ following l.first l.positions)
