use Rattle.std.proofs.Common.{◌≡◌, ℕ, nat_eq, nat_lt, take}
use Rattle.std.specs.HashSet as hash
use Rattle.aud_findings.specs.Also.{is_late, times}
use Rattle.aud_findings.specs.Received.{greatest}
use Rattle.aud_findings.proofs.others.seen_in.Given as goal

-- those of the positions so far
abbrev pub invariant-loop-position : goal.invariant-loop-position
invariant-loop-position l =
    ((q : ℕ) → hash.contains nat_eq l.once q ≡ nat_lt 0 (times (take l.position-index l.positions) q))
    × ((q : ℕ) → hash.contains nat_eq l.twice q ≡ nat_lt 1 (times (take l.position-index l.positions) q))
    × ((q : ℕ) → hash.contains nat_eq l.late q ≡ is_late (take l.position-index l.positions) q)
    × (l.last ≡ greatest (take l.position-index l.positions))
