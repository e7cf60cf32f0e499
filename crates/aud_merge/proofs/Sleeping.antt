-- The logs that are asleep, when a step is taken or one more falls asleep.
use Rattle.std.proofs.Common.{◌≡◌, ◌<◌, ℕ, Bool, true, false, List, [], ◌∷◌, ◌++◌, Option, Some, None, refl, sym, ap, subst, ◌∙◌, inl, inr, cond, nat_eq, arith, length, ◌||◌, ◌+◌, take, get_or}
use Rattle.std.proofs.lemmas.Bool.{false≢true, eq-eqb, cases_Bool}
use Rattle.std.proofs.lemmas.Grind.{common_steps}
use Rattle.std.proofs.lemmas.Option.{none-some, same_Some}
use Rattle.std.proofs.lemmas.Map.Lookups.{exact_pairs, exact_bytes, exact_unsigned}
use Rattle.std.proofs.lemmas.Bool.Decides.{nat_tests}
use Rattle.std.proofs.lemmas.List.Folds.{list_any_more}
use Rattle.std.specs.Cmp.{unsigned_tied}
use Rattle.std.specs.List.{list_any}
use Rattle.std.specs.Ordering.{nat_cmp, is_eq}
use Rattle.std.specs.Cmp.Lexicographic.{slice_cmp}
use Rattle.std.specs.declared.cmp.Ordering.{Ordering}
use Rattle.std.specs.declared.cmp.Ordering.TheVariants.{Less, Equal, Greater}
use Rattle.aud_node.specs.Cluster.{Cluster}
use Rattle.aud_merge.specs.declared.step.Step.{Step}
use Rattle.aud_merge.specs.Machine.{State, after, taken_in, taken_of}
use Rattle.aud_merge.specs.Runs.{front}
use Rattle.aud_merge.proofs.Steps.{stepped}
use Rattle.aud_merge.specs.Private.Causes.{Cause, is_same, awaited, told}
use Rattle.aud_merge.specs.Private.Asleep.{IsAsleep}
use Rattle.aud_merge.proofs.Blocking.{stays_blocked}

-- an order that says so
is_eq-Equal : (o : Ordering) → is_eq o ≡ true → o ≡ Equal
is_eq-Equal Less e = absurd (false≢true e)
is_eq-Equal Equal e = refl
is_eq-Equal Greater e = absurd (false≢true e)

-- causes that are the same are equal
pub same_cause : (x y : Cause) → is_same x y ≡ true → x ≡ y
same_cause x y e = exact_pairs (slice_cmp nat_cmp) nat_cmp exact_bytes exact_unsigned x y (is_eq-Equal _ e)

-- the next record of a log is the step, where as many of its records were taken
front-is : (st : State) (s : Step) → taken_of st s.log ≡ s.index → front st s.log ≡ s
front-is st s e = ap (λ i. record { log = s.log; index = i }) e

-- a step
module _ (c : Cluster) (st st' : State) (s : Step) (e : after c st s ≡ Some st') where
  -- is of a log that isn't asleep
  awake-steps : (place : ℕ) → after c st (front st place) ≡ None → place ≡ s.log → ⊥
  awake-steps place blocked same =
      none-some st' (sym blocked ∙ ap (λ p. after c st (front st p)) same ∙ ap (after c st) (front-is st s (stepped c st st' s e).was) ∙ e)

  -- a log that is asleep stays so, where it doesn't wait for what the step tells
  pub stays_asleep : (old new : Cause → List ℕ) (place : ℕ) → IsAsleep c st old place
      → ((cause : Cause) → told c s ≡ Some cause → list_any (nat_eq place) (old cause) ≡ false)
      → ((cause : Cause) → (told c s ≡ Some cause → ⊥) → new cause ≡ old cause)
      → IsAsleep c st' new place
  stays_asleep old new place asleep unwoken kept =
      let n : place ≡ s.log → ⊥ = awake-steps place asleep.blocked in
      let same : front st' place ≡ front st place = ap (λ o. record { log = place; index = taken_in o }) ((stepped c st st' s e).others place n) in
      let apart : (cause : Cause) → awaited c (front st place) ≡ Some cause → told c s ≡ Some cause → ⊥ =
      λ cause waits tells. false≢true (sym (unwoken cause tells) ∙ asleep.waits cause waits) in
      record {
        blocked = stays_blocked c st st' s place e n asleep.blocked (λ cause tells waits. apart cause waits tells);
        waits = λ cause waits.
            let waited : awaited c (front st place) ≡ Some cause = ap (awaited c) (sym same) ∙ waits in
            ap (list_any (nat_eq place)) (kept cause (apart cause waited)) ∙ asleep.waits cause waited;
      }

-- what was found among some is found among more
found-more : (place other : ℕ) (xs : List ℕ) → list_any (nat_eq place) xs ≡ true → list_any (nat_eq place) (xs ++ other ∷ []) ≡ true
found-more place other [] e = absurd (false≢true e)
found-more place other (x ∷ xs) e = grind (arith, common_steps, found-more place other xs)

-- the last is found
found-last : (place : ℕ) (xs : List ℕ) → list_any (nat_eq place) (xs ++ place ∷ []) ≡ true
found-last place [] = grind (arith, common_steps, eq-eqb place place refl)
found-last place (x ∷ xs) = grind (arith, common_steps, found-last place xs)

-- what a choice of two that fails says of them
or_parts : (a b : Bool) → (a || b) ≡ false → (a ≡ false) × (b ≡ false)
or_parts true b e = absurd (false≢true (sym e))
or_parts false b e = (refl, e)

-- a step, and the logs that are asleep before it
module _ (c : Cluster) (st st' : State) (s : Step) (e : after c st s ≡ Some st') (old : Cause → List ℕ) (awake : ℕ → Bool) (asleep : (q : ℕ) → q < length c.taps → awake q ≡ false → IsAsleep c st old q) where
  -- where it tells nothing, they stay so
  pub asleep-untold : None ≡ told c s → (q : ℕ) → q < length c.taps → awake q ≡ false → IsAsleep c st' old q
  asleep-untold untold q within slept =
      stays_asleep c st st' s e old old q (asleep q within slept) (λ other tells. absurd (none-some other (untold ∙ tells))) (λ other n. refl)

  -- those that don't wait for what it tells stay so
  pub asleep-told : (cause : Cause) → Some cause ≡ told c s → (new : Cause → List ℕ) (awake' : ℕ → Bool)
      → ((q : ℕ) → awake' q ≡ (awake q || list_any (nat_eq q) (old cause)))
      → ((other : Cause) → is_same cause other ≡ false → new other ≡ old other)
      → (q : ℕ) → q < length c.taps → awake' q ≡ false → IsAsleep c st' new q
  asleep-told cause tells new awake' woken others q within slept =
      let (was, unwoken) = or_parts (awake q) (list_any (nat_eq q) (old cause)) (sym (woken q) ∙ slept) in
      stays_asleep c st st' s e old new q (asleep q within was)
      (λ other also. ap (λ x. list_any (nat_eq q) (old x)) (sym (same_Some cause other (tells ∙ also))) ∙ unwoken)
      (λ other n. others other (apart other n))
    where
      apart : (other : Cause) → (told c s ≡ Some other → ⊥) → is_same cause other ≡ false
      apart other n = elim (cases_Bool (is_same cause other)) as (λ _. is_same cause other ≡ false) [
        | inl b ↦ absurd (n (sym tells ∙ ap Some (same_cause cause other b)))
        | inr b ↦ b
      ]

-- a log whose next record isn't allowed falls asleep
module _ (c : Cluster) (st : State) (s : Step) (next : s ≡ front st s.log) (blocked : after c st s ≡ None) (old new : Cause → List ℕ) (waits : (cause : Cause) → awaited c s ≡ Some cause → list_any (nat_eq s.log) (new cause) ≡ true) (more : (place : ℕ) (cause : Cause) → list_any (nat_eq place) (old cause) ≡ true → list_any (nat_eq place) (new cause) ≡ true) where
  -- it is asleep
  asleep-itself : IsAsleep c st new s.log
  asleep-itself = record { blocked = ap (after c st) (sym next) ∙ blocked; waits = λ cause e. waits cause (ap (awaited c) next ∙ e) }

  -- another is as it was
  asleep-other : (q : ℕ) → IsAsleep c st old q → IsAsleep c st new q
  asleep-other q asleep = record { blocked = asleep.blocked; waits = λ cause e. more q cause (asleep.waits cause e) }

  -- so all are
  pub asleep-more : (awake awake' : ℕ → Bool) → ((q : ℕ) → q < length c.taps → awake q ≡ false → IsAsleep c st old q)
      → ((q : ℕ) → awake' q ≡ cond (is_eq (nat_cmp s.log q)) false (awake q)) → (q : ℕ) → q < length c.taps → awake' q ≡ false → IsAsleep c st new q
  asleep-more awake awake' asleep left q within slept = elim (cases_Bool (is_eq (nat_cmp s.log q))) as (λ _. IsAsleep c st new q) [
    | inl b ↦ subst (IsAsleep c st new) (exact_unsigned s.log q (is_eq-Equal (nat_cmp s.log q) b)) asleep-itself
    | inr b ↦ asleep-other q (asleep q within (sym (ap (λ t. cond t false (awake q)) b) ∙ sym (left q) ∙ slept))
  ]

-- two numbers are compared either way
nat_same : (k q : ℕ) → is_eq (nat_cmp k q) ≡ nat_eq q k
nat_same k q = unsigned_tied k q ∙ turned
  where
    turned : nat_eq k q ≡ nat_eq q k
    turned = grind (arith, nat_tests)

-- one more choice
one_more : (a b d : Bool) → cond d true (a || b) ≡ (a || (b || d))
one_more true b true = refl
one_more true b false = refl
one_more false true true = refl
one_more false true false = refl
one_more false false true = refl
one_more false false false = refl

-- one more log that waited is to be looked at
pub awake-more : (q : ℕ) (items : List ℕ) (i : ℕ) (first old new : Bool) → i < length items → old ≡ (first || list_any (nat_eq q) (take i items))
    → new ≡ cond (is_eq (nat_cmp (get_or items i 0) q)) true old → new ≡ (first || list_any (nat_eq q) (take (i + 1) items))
awake-more q items i first old new h was put =
    put
    ∙ ap (λ (d : Bool). cond d true old) (nat_same (get_or items i 0) q)
    ∙ ap (cond (nat_eq q (get_or items i 0)) true) was
    ∙ one_more first (list_any (nat_eq q) (take i items)) (nat_eq q (get_or items i 0))
    ∙ ap (λ (b : Bool). first || b) (sym (list_any_more (nat_eq q) items i 0 h))

-- one more log waits for the cause
module _ (old new : Cause → List ℕ) (cause : Cause) (log : ℕ) (added : new cause ≡ old cause ++ log ∷ []) (others : (other : Cause) → is_same cause other ≡ false → new other ≡ old other) where
  -- the log waits for it
  pub waits-last : list_any (nat_eq log) (new cause) ≡ true
  waits-last = ap (list_any (nat_eq log)) added ∙ found-last log (old cause)

  -- and the others wait for what they waited for
  pub waits-more : (place : ℕ) (other : Cause) → list_any (nat_eq place) (old other) ≡ true → list_any (nat_eq place) (new other) ≡ true
  waits-more place other e = elim (cases_Bool (is_same cause other)) as (λ _. list_any (nat_eq place) (new other) ≡ true) [
    | inl b ↦
        let same : cause ≡ other = same_cause cause other b in
        subst (λ (x : Cause). list_any (nat_eq place) (new x) ≡ true) same
        (ap (list_any (nat_eq place)) added ∙ found-more place log (old cause) (ap (λ x. list_any (nat_eq place) (old x)) same ∙ e))
    | inr b ↦ ap (list_any (nat_eq place)) (others other b) ∙ e
  ]

  -- what the record waits for
  pub waits-now : (waited : Option Cause) → Some cause ≡ waited → (other : Cause) → waited ≡ Some other → list_any (nat_eq log) (new other) ≡ true
  waits-now waited is other e = subst (λ (x : Cause). list_any (nat_eq log) (new x) ≡ true) (same_Some cause other (is ∙ e)) waits-last
