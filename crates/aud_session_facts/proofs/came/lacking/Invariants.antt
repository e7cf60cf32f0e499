use Rattle.std.proofs.Common.{◌≡◌, filter, not, take}
use Rattle.std.specs.Ordering.{nat_cmp}
use Rattle.std.specs.BTreeSet.{contains}
use Rattle.aud_session_facts.proofs.came.lacking.Given as goal

-- those of the positions so far
abbrev pub invariant-loop-position : goal.invariant-loop-position
invariant-loop-position l = l.left.items ≡ filter (λ p. not (contains nat_cmp l.all p)) (take l.position-index l.positions)
