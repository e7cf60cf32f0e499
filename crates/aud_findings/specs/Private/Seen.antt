-- Which positions stand in a list, which of them again, and which too late.
use Rattle.std.specs.Prelude.{◌≡◌, ◌&&◌, not, ℕ, Bool, List, nat_eq, nat_lt}
use Rattle.std.specs.HashSet as hash
use Rattle.aud_check.specs.declared.difference.Difference.{Difference}
use Rattle.aud_check.specs.declared.difference.Difference.TheVariants.{Extra, Doubled, Swapped, Lost}
use Rattle.aud_check.specs.Difference.{has_position}
use Rattle.aud_findings.specs.declared.others.Seen.{Seen}
use Rattle.aud_findings.specs.Also.{is_again, is_late, is_passed, times}
use Rattle.aud_findings.specs.Received.{greatest}

-- these are of these positions those that stand among them, those that stand there again, those that stand there too
-- late, and the greatest
pub record AreSeen (positions : List ℕ) (seen : Seen) : Type 0 where
  pub once : (q : ℕ) → hash.contains nat_eq seen.once q ≡ has_position positions q
  pub twice : (q : ℕ) → hash.contains nat_eq seen.twice q ≡ nat_lt 1 (times positions q)
  pub late : (q : ℕ) → hash.contains nat_eq seen.late q ≡ is_late positions q
  pub last : seen.last ≡ greatest positions

-- the position has the fault of the difference too, against these, and is another one: against those due where it is one
-- that wasn't due, and else against those that were received
abbrev pub is_also_by : List ℕ → Difference → ℕ → Bool
is_also_by against (Extra frame position) p = not (has_position against p) && not (nat_eq p position)
is_also_by against (Doubled first again position) p = is_again against p && not (nat_eq p position)
is_also_by against (Swapped frame position later) p = is_late against p && not (nat_eq p position)
is_also_by against (Lost frame position) p = is_passed against p && not (nat_eq p position)
