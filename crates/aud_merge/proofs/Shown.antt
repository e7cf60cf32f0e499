-- The choice, made as often as it can be, ends in a run, or blocks where there is none.
use Rattle.std.proofs.Common.{◌≡◌, ◌≢◌, ◌<◌, ◌≤◌, ◌+◌, ℕ, zero, suc, cond, List, [], ◌∷◌, ◌++◌, Option, Some, None, length, unwrap_or, refl, sym, ap, subst, ◌∙◌, inl, inr, nat_lt, IsSome, rules, arith}
use Rattle.std.proofs.lemmas.Bool.{cases_lt, cases_Bool, ltb-false}
use Rattle.std.proofs.lemmas.Option.{slice_get_past}
use Rattle.aud_node.specs.Cluster.{Cluster}
use Rattle.aud_merge.specs.declared.step.Step.{Step}
use Rattle.aud_merge.specs.Machine.{State, start, after, taken_of}
use Rattle.aud_merge.specs.Runs.{AreAllowed, front, record_count, state_after}
use Rattle.aud_merge.specs.Order.{first_allowed, IsGreedy, IsBlockedAt, unfinished_fronts}
use Rattle.aud_merge.specs.Private.RunsOn.{IsFinished, RunsOn}
use Rattle.aud_merge.proofs.Exchange.{greedy-allowed, greedily_blocked-no_run}
use Rattle.aud_merge.proofs.Merged.{run-RunsOn}
use Rattle.aud_merge.specs.Shown.{IsGreedyRun, AreBlocking}
use Rattle.aud_merge.specs.Private.Walked.{HasWalked}

-- one more step that is chosen
greedy-push : (c : Cluster) (st : State) (steps : List Step) (s : Step) → IsGreedy c st steps → first_allowed c (state_after c st steps) 0 (length c.taps) ≡ Some s → IsGreedy c st (steps ++ s ∷ [])
greedy-push c st [] s g e = (e, tt)
greedy-push c st (x ∷ xs) s g e = (g.0, greedy-push c (unwrap_or (after c st x) st) xs s g.1 e)

-- leads on
state_after-push : (c : Cluster) (st : State) (steps : List Step) (s : Step)
    → state_after c st (steps ++ s ∷ []) ≡ unwrap_or (after c (state_after c st steps) s) (state_after c st steps)
state_after-push c st [] s = refl
state_after-push c st (x ∷ xs) s = state_after-push c (unwrap_or (after c st x) st) xs s

-- the next step is chosen and taken
walked-more : (c : Cluster) (steps : List Step) (st st' : State) (s : Step) → HasWalked c steps st → first_allowed c st 0 (length c.taps) ≡ Some s → after c st s ≡ Some st' → HasWalked c (steps ++ s ∷ []) st'
walked-more c steps st st' s walked e at =
    record {
      greedy = greedy-push c (start c) steps s walked.greedy (subst (λ (u : State). first_allowed c u 0 (length c.taps) ≡ Some s) walked.leads e);
      leads =
          sym (state_after-push c (start c) steps s
          ∙ ap (λ u. unwrap_or (after c u s) u) (sym walked.leads)
          ∙ ap (λ o. unwrap_or o st) at);
    }

-- allowed steps that finish all logs are the rest of a run
runs_through : (c : Cluster) (steps : List Step) (st : State) → AreAllowed c st steps → IsFinished c (state_after c st steps) → RunsOn c st steps
runs_through c [] st allowed finished = finished
runs_through c (s ∷ steps) st allowed finished =
    let (next, at, later) = allowed in
    (next, at, runs_through c steps next later (subst (λ o. IsFinished c (state_after c (unwrap_or o st) steps)) at finished))

-- where no log has a next record that is left, each is finished
finished_from : (c : Cluster) (st : State) (count place : ℕ) → unfinished_fronts c st place count ≡ [] → (q : ℕ) → place ≤ q → q < place + count → record_count c q ≤ taken_of st q
finished_from c st zero place e q low high = absurd (omega arith)
finished_from c st (suc count) place e q low high = elim (cases_Bool (nat_lt (taken_of st place) (record_count c place))) as (λ _. record_count c q ≤ taken_of st q) [
  | inl b ↦ absurd (let no : (front st place ∷ unfinished_fronts c st (suc place) count) ≡ [] = sym (ap (λ t. cond t (front st place ∷ unfinished_fronts c st (suc place) count) (unfinished_fronts c st (suc place) count)) b) ∙ e in cc)
  | inr b ↦ elim (cases_lt place q) as (λ _. record_count c q ≤ taken_of st q) [
    | inl l ↦ finished_from c st count (suc place) (sym (ap (λ t. cond t (front st place ∷ unfinished_fronts c st (suc place) count) (unfinished_fronts c st (suc place) count)) b) ∙ e) q l (omega arith)
    | inr l ↦ let same : place ≡ q = omega arith in subst (λ p. record_count c p ≤ taken_of st p) same (ltb-false (taken_of st place) (record_count c place) b)
  ]
]

-- past the last tap there is nothing to take
finished_past : (c : Cluster) (st : State) (q : ℕ) → length c.taps ≤ q → record_count c q ≤ taken_of st q
finished_past c st q h = grind (arith, slice_get_past c.taps q h)

-- so all are
all_finished : (c : Cluster) (st : State) → unfinished_fronts c st 0 (length c.taps) ≡ [] → IsFinished c st
all_finished c st e q = elim (cases_lt q (length c.taps)) as (λ _. record_count c q ≤ taken_of st q) [
  | inl l ↦ finished_from c st (length c.taps) 0 e q (omega arith) (omega arith)
  | inr l ↦ finished_past c st q l
]

-- the choice that leaves nothing is a run
shown_run : (c : Cluster) (steps : List Step) (st : State) → HasWalked c steps st → unfinished_fronts c st 0 (length c.taps) ≡ [] → IsGreedyRun c steps
shown_run c steps st walked e =
    record {
      is_run = run-RunsOn c steps
          (runs_through c steps (start c) (greedy-allowed c steps (start c) walked.greedy)
          (subst (IsFinished c) walked.leads (all_finished c st e)));
      greedy = walked.greedy;
    }

-- the choice that leaves something is as far as any goes
shown_blocked : (c : Cluster) (steps fronts : List Step) (st : State) → HasWalked c steps st → first_allowed c st 0 (length c.taps) ≡ None
    → fronts ≡ unfinished_fronts c st 0 (length c.taps) → fronts ≢ [] → AreBlocking c fronts
shown_blocked c steps fronts st walked none are some =
    record { no_run = λ run is. greedily_blocked-no_run c fronts blocked run is; blocked = blocked }
  where
    blocked : IsBlockedAt c fronts
    blocked =
        record {
          steps = steps;
          greedy = walked.greedy;
          none_left = subst (λ (u : State). first_allowed c u 0 (length c.taps) ≡ None) walked.leads none;
          are_fronts = are ∙ ap (λ u. unfinished_fronts c u 0 (length c.taps)) walked.leads;
          some = some;
        }

-- what was chosen
module _ (c : Cluster) (steps : List Step) (was st : State) (walked : HasWalked c steps was) (same : st ≡ was) (o : Option Step) (chosen : o ≡ first_allowed c was 0 (length c.taps)) where
  -- it is allowed
  pub chosen-allowed : (s : Step) → o ≡ Some s → IsSome (after c st s)
  chosen-allowed s is =
      let (next, at, over) = greedy-allowed c (s ∷ []) was (sym chosen ∙ is, tt) in
      let there : after c st s ≡ Some next = ap (λ u. after c u s) same ∙ at in
      subst IsSome (sym there) (search rules)

  -- once it is taken, the choice goes on
  pub walked-on : (s : Step) → o ≡ Some s → (st' : State) → after c st s ≡ Some st' → (more : List Step) → more ≡ steps ++ s ∷ [] → HasWalked c more st'
  walked-on s is st' at more grown =
      subst (λ (xs : List Step). HasWalked c xs st') (sym grown)
      (walked-more c steps was st' s walked (sym chosen ∙ is) (ap (λ u. after c u s) (sym same) ∙ at))

  -- where nothing is left, it was a run
  pub ends_in_run : (fronts : List Step) → fronts ≡ unfinished_fronts c st 0 (length c.taps) → length fronts ≡ 0 → IsGreedyRun c steps
  ends_in_run fronts are none =
      shown_run c steps was walked (ap (λ u. unfinished_fronts c u 0 (length c.taps)) (sym same) ∙ sym are ∙ empty fronts none)
    where
      empty : (xs : List Step) → length xs ≡ 0 → xs ≡ []
      empty [] e = refl
      empty (x ∷ xs) e = absurd (omega arith)

  -- where something is, and nothing is chosen, that blocks
  pub ends_blocked : o ≡ None → (fronts : List Step) → fronts ≡ unfinished_fronts c st 0 (length c.taps) → (length fronts ≡ 0 → ⊥) → AreBlocking c fronts
  ends_blocked none fronts are some =
      shown_blocked c steps fronts was walked (sym chosen ∙ none) (are ∙ ap (λ u. unfinished_fronts c u 0 (length c.taps)) same) (λ e. some (ap length e))
