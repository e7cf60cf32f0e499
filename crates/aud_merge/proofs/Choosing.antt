-- The first log whose next record is allowed.
use Rattle.std.proofs.Common.{◌≡◌, ◌<◌, ◌≤◌, ◌+◌, ℕ, zero, suc, true, cond, Some, None, length, is_some, refl, sym, ap, ◌∙◌, inl, inr, option_map, arith}
use Rattle.std.proofs.lemmas.Bool.{cases_lt}
use Rattle.std.proofs.lemmas.Option.{slice_get_past}
use Rattle.aud_tap.specs.declared.taps.Tap.{Tap}
use Rattle.aud_node.specs.Cluster.{Cluster}
use Rattle.aud_merge.specs.declared.step.Step.{Step}
use Rattle.aud_merge.specs.Machine.{State, after, taken_of}
use Rattle.aud_merge.specs.Runs.{front, log_length, record_count}
use Rattle.aud_merge.specs.Order.{first_allowed}
use Rattle.aud_merge.proofs.Steps.{stepped}
use Rattle.aud_merge.proofs.Exchange.{some-is}

-- where none is allowed, none is the first
pub none_first : (c : Cluster) (st : State) (count place : ℕ) → ((q : ℕ) → place ≤ q → q < place + count → after c st (front st q) ≡ None) → first_allowed c st place count ≡ None
none_first c st zero place blocked = refl
none_first c st (suc count) place blocked =
    ap (λ o. cond (is_some o) (Some (front st place)) (first_allowed c st (suc place) count)) (blocked place (omega arith) (omega arith))
    ∙ none_first c st count (suc place) (λ q low high. blocked q (omega arith) (omega arith))

-- one that is allowed is the first, where none before it is
first_from : (c : Cluster) (st : State) (count place p : ℕ) → place ≤ p → p < place + count → is_some (after c st (front st p)) ≡ true
    → ((q : ℕ) → place ≤ q → q < p → after c st (front st q) ≡ None) → first_allowed c st place count ≡ Some (front st p)
first_from c st zero place p low high allowed blocked = absurd (omega arith)
first_from c st (suc count) place p low high allowed blocked = elim (cases_lt place p) as (λ _. first_allowed c st place (suc count) ≡ Some (front st p)) [
  | inl l ↦
      ap (λ o. cond (is_some o) (Some (front st place)) (first_allowed c st (suc place) count)) (blocked place (omega arith) l)
      ∙ first_from c st count (suc place) p l (omega arith) allowed (λ q low' high'. blocked q (omega arith) high')
  | inr l ↦
      let same : place ≡ p = omega arith in
      ap (λ b. cond b (Some (front st place)) (first_allowed c st (suc place) count)) (ap (λ q. is_some (after c st (front st q))) same ∙ allowed)
      ∙ ap (λ q. Some (front st q)) same
]

-- an allowed step is of one of the logs
pub step_within : (c : Cluster) (st st' : State) (s : Step) → after c st s ≡ Some st' → s.log < length c.taps
step_within c st st' s e = elim (cases_lt s.log (length c.taps)) as (λ _. s.log < length c.taps) [
  | inl l ↦ l
  | inr l ↦
      let none : record_count c s.log ≡ 0 = ap (λ o. log_length (option_map (λ (t : Tap). t.records) o)) (slice_get_past c.taps s.log l) in
      let counted : s.index < record_count c s.log = (stepped c st st' s e).counted in
      absurd (omega (arith, none, counted))
]

-- the first log that is awake and allowed is the first that is allowed
pub first_is : (c : Cluster) (st : State) (p : ℕ) → is_some (after c st (front st p)) ≡ true
    → ((q : ℕ) → q < length c.taps → q < p → after c st (front st q) ≡ None) → first_allowed c st 0 (length c.taps) ≡ Some (front st p)
first_is c st p allowed blocked =
    let (st', e) = some-is (after c st (front st p)) allowed in
    let within : p < length c.taps = step_within c st st' (front st p) e in
    first_from c st (length c.taps) 0 p (omega arith) (omega arith) allowed (λ q low high. blocked q (omega arith) high)

-- so it is the chosen one
pub chosen_is : (c : Cluster) (st was : State) (log index : ℕ) → st ≡ was → index ≡ taken_of st log → is_some (after c st (record { log = log; index = index })) ≡ true
    → ((q : ℕ) → q < length c.taps → q < log → after c st (front st q) ≡ None) → Some (record { log = log; index = index }) ≡ first_allowed c was 0 (length c.taps)
chosen_is c st was log index same e allowed blocked =
    let step : Step = record { log = log; index = index } in
    let is : step ≡ front st log = ap (λ (i : ℕ). record { log = log; index = i }) e in
    ap Some is
    ∙ sym (first_is c st log (sym (ap (λ s. is_some (after c st s)) is) ∙ allowed) blocked)
    ∙ ap (λ u. first_allowed c u 0 (length c.taps)) same

-- where none is allowed, none is chosen
pub none_is : (c : Cluster) (st was : State) → st ≡ was → ((q : ℕ) → q < length c.taps → after c st (front st q) ≡ None) → None ≡ first_allowed c was 0 (length c.taps)
none_is c st was same blocked =
    sym (none_first c st (length c.taps) 0 (λ q low high. blocked q (omega arith)))
    ∙ ap (λ u. first_allowed c u 0 (length c.taps)) same
