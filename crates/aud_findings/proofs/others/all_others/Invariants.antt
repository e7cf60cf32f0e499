use Rattle.std.proofs.Common.{◌≡◌, ℕ, List, filter, take}
use Rattle.aud_findings.specs.Private.Seen.{AreSeen, is_also_by}
use Rattle.aud_findings.proofs.others.all_others.Given as goal

-- those of the positions so far
abbrev pub invariant-loop-position : goal.invariant-loop-position
invariant-loop-position l =
    (against : List ℕ) → AreSeen against l.seen → l.found.items ≡ filter (is_also_by against l.difference) (take l.position-index l.positions)
