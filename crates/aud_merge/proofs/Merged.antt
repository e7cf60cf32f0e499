-- A run from the start is a merging whose steps are allowed, and no other.
use Rattle.std.proofs.Common.{Some, ◌≡◌, ◌+◌, ◌<◌, ◌≤◌, ◌↔◌, ℕ, zero, suc, Bool, true, length, drop, get_or, List, [], ◌∷◌, sym, ap, subst, ◌∙◌, refl, arith}
use Rattle.std.proofs.lemmas.Bool.{cases_eq, eq-eqb, ne_eqb}
use Rattle.std.proofs.lemmas.Option.{same_Some}
use Rattle.std.proofs.lemmas.List.{drop_all}
use Rattle.std.proofs.Math.Seq.{drop-cons}
use Rattle.aud_node.specs.Cluster.{Cluster}
use Rattle.aud_node.specs.Lists.{numbers_from}
use Rattle.aud_merge.specs.declared.step.Step.{Step}
use Rattle.aud_merge.specs.Machine.{State, start, after, taken_of}
use Rattle.aud_merge.specs.Runs.{record_count, AreAllowed, IsRun}
use Rattle.aud_merge.specs.Private.RunsOn.{IsFinished, RunsOn}
use Rattle.aud_merge.proofs.Steps.{stepped, steps_of, taken-start, RunsOn-run}

-- the steps of the rest of a run are allowed
allowed_on : (c : Cluster) (st : State) (steps : List Step) → RunsOn c st steps → AreAllowed c st steps
allowed_on c st [] runs = tt
allowed_on c st (s ∷ steps) runs =
    let (next, at, later) = runs in
    (next, at, allowed_on c next steps later)

-- the steps of a log are the records that are left of it
left_of : (c : Cluster) (l : ℕ) (steps : List Step) (st : State) (rest : ℕ) → RunsOn c st steps → taken_of st l + rest ≡ record_count c l → steps_of l steps ≡ numbers_from (taken_of st l) rest
left_of c l [] st zero runs all = refl
left_of c l [] st (suc rest) runs all = let finished = runs l in absurd (omega (arith, finished, all))
left_of c l (s ∷ steps) st zero runs all = let (next, at, later) = runs in grind (arith, stepped c st next s at, cases_eq s.log l, eq-eqb s.log l, ne_eqb s.log l, left_of c l steps next zero later)
left_of c l (s ∷ steps) st (suc rest) runs all = let (next, at, later) = runs in grind (arith, stepped c st next s at, cases_eq s.log l, eq-eqb s.log l, ne_eqb s.log l, left_of c l steps next rest later, left_of c l steps next (suc rest) later)

-- steps that are the rest of a run from the start on are a run
pub run-RunsOn : (c : Cluster) (run : List Step) → RunsOn c (start c) run → IsRun c run
run-RunsOn c run runs =
    record {
      merges = λ l.
          (let none = taken-start c l in
          left_of c l run (start c) (record_count c l) runs (omega (arith, none)) ∙ ap (λ n. numbers_from n (record_count c l)) none);
      allowed = allowed_on c (start c) run runs;
    }

pub ruleset whole_runs = (RunsOn-run, run-RunsOn)

-- how it is told, step after step, whether a list is a run
pub run-goes_on : (c : Cluster) (steps run : List Step) (st next : State) (i : ℕ) (d : Step) → IsRun c run ↔ RunsOn c st (drop i steps) → i < length steps
    → after c st (get_or steps i d) ≡ Some next → IsRun c run ↔ RunsOn c next (drop (i + 1) steps)
run-goes_on c steps run st next i d told inside at = (
  λ is.
      (let (other, at', later) = subst (RunsOn c st) cut (told.0 is) in
      subst (λ (u : State). RunsOn c u (drop (i + 1) steps)) (same_Some other next (sym at' ∙ at)) later),
  λ later. told.1 (subst (RunsOn c st) (sym cut) (next, at, later)),
)
  where
    one : suc i ≡ i + 1
    one = omega arith

    cut : drop i steps ≡ get_or steps i d ∷ drop (i + 1) steps
    cut = drop-cons steps i d inside ∙ ap (λ n. get_or steps i d ∷ drop n steps) one

-- after the last step, the list is a run where every log is finished
pub run-is_over : (c : Cluster) (steps run : List Step) (st : State) (i : ℕ) (finished : Bool) → IsRun c run ↔ RunsOn c st (drop i steps) → length steps ≤ i
    → finished ≡ true ↔ IsFinished c st → finished ≡ true ↔ IsRun c run
run-is_over c steps run st i finished told past over = grind (arith, drop_all i steps past)
