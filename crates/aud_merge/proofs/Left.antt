-- How many records are left, which each step makes fewer.
use Rattle.std.proofs.Common.{◌≡◌, ◌<◌, ◌≤◌, ◌+◌, ℕ, zero, suc, Some, length, subst, arith, inl, inr}
use Rattle.std.proofs.lemmas.Bool.{cases_lt}
use Rattle.aud_node.specs.Cluster.{Cluster}
use Rattle.aud_merge.specs.declared.step.Step.{Step}
use Rattle.aud_merge.specs.Machine.{State, after}
use Rattle.aud_merge.proofs.Steps.{Stepped, stepped, taken-grows}
use Rattle.aud_merge.proofs.Choosing.{step_within}
use Rattle.aud_merge.specs.Private.Left.{left_from, left}

module _ (c : Cluster) (st st' : State) (l i : ℕ) (step : Stepped c st st' l i) where
  -- a step leaves no more of any log
  left-most : (count place : ℕ) → left_from c st' place count ≤ left_from c st place count
  left-most zero place = omega arith
  left-most (suc count) place = let later = left-most count (suc place) in let grows = taken-grows c st st' l i place step in omega arith

  -- and less of its own
  left-less : (count place : ℕ) → place ≤ l → l < place + count → left_from c st' place count < left_from c st place count
  left-less zero place low high = absurd (omega arith)
  left-less (suc count) place low high = elim (cases_lt place l) as (λ _. left_from c st' place (suc count) < left_from c st place (suc count)) [
    | inl h ↦ let later = left-less count (suc place) h (omega arith) in let grows = taken-grows c st st' l i place step in omega arith
    | inr h ↦
        let later = left-most count (suc place) in
        let same : place ≡ l = omega arith in
        let was = step.was in let now = step.now in let counted = step.counted in
        grind (arith, later, same, was, now, counted)
  ]

-- each step leaves less
left-step : (c : Cluster) (st st' : State) (s : Step) → after c st s ≡ Some st' → s.log < length c.taps → left c st' < left c st
left-step c st st' s e within = left-less c st st' s.log s.index (stepped c st st' s e) (length c.taps) 0 (omega arith) (omega arith)

-- so does one after nothing was taken
pub left-on : (c : Cluster) (was st st' : State) (s : Step) → st ≡ was → after c st s ≡ Some st' → left c st' < left c was
left-on c was st st' s same e = subst (λ (u : State). left c st' < left c u) same (left-step c st st' s e (step_within c st st' s e))
