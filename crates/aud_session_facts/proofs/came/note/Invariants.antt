use Rattle.std.proofs.Common.{◌≡◌, ◌||◌, ℕ, take}
use Rattle.std.specs.Ordering.{nat_cmp}
use Rattle.std.specs.BTreeSet.{contains}
use Rattle.aud_check.specs.Difference.{has_position}
use Rattle.aud_session_facts.proofs.came.note.Given as goal

-- those that were there, and those of the positions so far
abbrev pub invariant-loop-position : goal.invariant-loop-position
invariant-loop-position l = (p : ℕ) → contains nat_cmp l.all p ≡ (contains nat_cmp l.fn.all p || has_position (take l.position-index l.came) p)
