use Rattle.std.proofs.Common.{◌≡◌, ◌-◌, ◌++◌, map}
use Rattle.aud_findings.specs.Also.{past_ranges, ranges}
use Rattle.aud_findings.proofs.ranges.ranges_of.Given as goal

-- those so far, and those of the rest
abbrev pub invariant-loop-turn : goal.invariant-loop-turn
invariant-loop-turn l =
    (l.found.items ++ ranges (l.most - l._turn) l.rest ≡ ranges l.most l.positions)
    × (past_ranges (l.most - l._turn) l.rest ≡ past_ranges l.most l.positions)
