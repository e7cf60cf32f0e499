-- What is shown of the logs is one thing; steps that are allowed begin a run where there is one.
use Rattle.std.proofs.Common.{◌≡◌, List, [], ◌∷◌, ◌++◌, Option, Some, None, length, unwrap_or, ℕ, refl, sym, ap, subst, ◌∙◌, arith}
use Rattle.std.proofs.lemmas.Option.{none-some, same_Some}
use Rattle.aud_node.specs.Cluster.{Cluster}
use Rattle.aud_merge.specs.declared.step.Step.{Step}
use Rattle.aud_merge.specs.Machine.{State, start, after}
use Rattle.aud_merge.specs.Runs.{AreAllowed, IsRun, front, state_after}
use Rattle.aud_merge.specs.Order.{first_allowed, IsGreedy, unfinished_fronts}
use Rattle.aud_merge.specs.Private.RunsOn.{IsFinished, RunsOn}
use Rattle.aud_merge.proofs.Steps.{stepped, RunsOn-run}
use Rattle.aud_merge.proofs.Exchange.{goes_on}
use Rattle.aud_merge.proofs.Merged.{run-RunsOn}
use Rattle.aud_merge.specs.Shown.{AreBlocking, IsGreedyRun}
use Rattle.aud_merge.proofs.Choosing.{none_first}

-- the choice, made as often as it can be, is one
one_choice : (c : Cluster) (xs ys : List Step) (st : State) → IsGreedy c st xs → IsGreedy c st ys
    → first_allowed c (state_after c st xs) 0 (length c.taps) ≡ None → first_allowed c (state_after c st ys) 0 (length c.taps) ≡ None → xs ≡ ys
one_choice c [] [] st gx gy nx ny = refl
one_choice c [] (y ∷ ys) st gx gy nx ny = absurd (none-some y (sym nx ∙ gy.0))
one_choice c (x ∷ xs) [] st gx gy nx ny = absurd (none-some x (sym ny ∙ gx.0))
one_choice c (x ∷ xs) (y ∷ ys) st gx gy nx ny =
    let same : y ≡ x = same_Some y x (sym gy.0 ∙ gx.0) in
    let later : xs ≡ ys =
    one_choice c xs ys (unwrap_or (after c st x) st) gx.1 (subst (λ (s : Step). IsGreedy c (unwrap_or (after c st s) st) ys) same gy.1)
    nx (subst (λ (s : Step). first_allowed c (state_after c (unwrap_or (after c st s) st) ys) 0 (length c.taps) ≡ None) same ny) in
    ap (λ (zs : List Step). x ∷ zs) later ∙ ap (λ (s : Step). s ∷ ys) (sym same)

-- after a run all logs are finished
run_finishes : (c : Cluster) (steps : List Step) (st : State) → RunsOn c st steps → IsFinished c (state_after c st steps)
run_finishes c [] st runs = runs
run_finishes c (s ∷ steps) st runs =
    let (next, at, later) = runs in
    subst (λ (o : Option State). IsFinished c (state_after c (unwrap_or o st) steps)) (sym at) (run_finishes c steps next later)

-- a finished log has no next record that is allowed
finished_blocks : (c : Cluster) (st : State) → IsFinished c st → (q : ℕ) → after c st (front st q) ≡ None
finished_blocks c st finished q = go (after c st (front st q)) refl
  where
    go : (o : Option State) → after c st (front st q) ≡ o → o ≡ None
    go None at = refl
    go (Some next) at =
        let counted = (stepped c st next (front st q) at).counted in
        let all = finished q in
        absurd (omega (arith, counted, all))

-- so none is chosen
run_ends : (c : Cluster) (steps : List Step) → IsRun c steps → first_allowed c (state_after c (start c) steps) 0 (length c.taps) ≡ None
run_ends c steps is =
    let finished = run_finishes c steps (start c) (RunsOn-run c steps is) in
    none_first c (state_after c (start c) steps) (length c.taps) 0 (λ q low high. finished_blocks c (state_after c (start c) steps) finished q)

-- one run is shown
pub one_run : (c : Cluster) (steps others : List Step) → IsGreedyRun c steps → IsGreedyRun c others → steps ≡ others
one_run c steps others is also = one_choice c steps others (start c) is.greedy also.greedy (run_ends c steps is.is_run) (run_ends c others also.is_run)

-- or one list blocks
pub one_block : (c : Cluster) (fronts others : List Step) → AreBlocking c fronts → AreBlocking c others → fronts ≡ others
one_block c fronts others is also =
    let same : is.blocked.steps ≡ also.blocked.steps =
    one_choice c is.blocked.steps also.blocked.steps (start c) is.blocked.greedy also.blocked.greedy is.blocked.none_left also.blocked.none_left in
    is.blocked.are_fronts
    ∙ ap (λ (steps : List Step). unfinished_fronts c (state_after c (start c) steps) 0 (length c.taps)) same
    ∙ sym also.blocked.are_fronts

-- allowed steps, and then the rest of a run
joined : (c : Cluster) (steps rest : List Step) (st : State) → AreAllowed c st steps → RunsOn c (state_after c st steps) rest → RunsOn c st (steps ++ rest)
joined c [] rest st allowed runs = runs
joined c (s ∷ steps) rest st allowed runs =
    let (next, at, later) = allowed in
    (next, at, joined c steps rest next later (subst (λ (o : Option State). RunsOn c (state_after c (unwrap_or o st) steps) rest) at runs))

-- allowed steps begin a run
pub begins_run : (c : Cluster) (steps run : List Step) → IsRun c run → AreAllowed c (start c) steps → (rest : List Step) × IsRun c (steps ++ rest)
begins_run c steps run is allowed =
    let (rest, runs) = goes_on c steps (start c) allowed run (RunsOn-run c run is) in
    (rest, run-RunsOn c (steps ++ rest) (joined c steps rest (start c) allowed runs))
