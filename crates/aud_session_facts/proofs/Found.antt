-- What was found is where the position was first reached.
use Rattle.std.proofs.Common.{◌≡◌, ◌+◌, ◌-◌, ℕ, suc, List, [], ◌∷◌, Option, Some, None, IfSome, option_map, refl, ap, subst, ◌∙◌, arith, nat_le}
use Rattle.std.proofs.lemmas.Bool.{cond_both}
use Rattle.std.proofs.lemmas.Option.{none-some}
use Rattle.aud_node.specs.Cluster.{Cluster, node_log}
use Rattle.aud_rooms.specs.Turns.{Turn, slice_of}
use Rattle.aud_merge.specs.ByTurns.{first_reaching, reaching_step}
use Rattle.aud_session_facts.specs.declared.reach.Reach.{Reach}
use Rattle.aud_session_facts.specs.Reach.{step_of, first_turn_reaching}
use Rattle.aud_session_facts.specs.Private.Found.{reach_in, reach_from}

module _ (c : Cluster) (p : ℕ) where
  -- its record is the one that reaches the position
  pub found_step : (k : ℕ) (turns : List Turn) → option_map step_of (reach_from c k turns p) ≡ reaching_step c turns p
  found_step k [] = refl
  found_step k (t ∷ later) = grind (arith, found_step (suc k) later)

  -- its turn counts on from the first number
  counted : (k : ℕ) (t : Turn) → IfSome (reach_in c k t p) (λ reach. reach.turn ≡ k)
  counted k t = go (first_reaching c.stream (node_log c t.node) p t.from (t.to - t.from))
    where
      go : (o : Option ℕ) → IfSome (option_map (λ (n : ℕ). (let there : Reach = record { turn = k; node = t.node; number = n } in there)) o) (λ reach. reach.turn ≡ k)
      go None = tt
      go (Some n) = refl

  -- its turn is the first that reaches the position
  pub found_turn : (k : ℕ) (turns : List Turn) (reach : Reach) → reach_from c k turns p ≡ Some reach → (j : ℕ) × (first_turn_reaching c turns p ≡ Some j) × (reach.turn ≡ k + j)
  found_turn k [] reach is = absurd (none-some reach is)
  found_turn k (t ∷ later) reach is =
      cond_both (nat_le p (slice_of c t).high) (reach_in c k t p) (reach_from c (suc k) later p) (λ o. o ≡ Some reach → (j : ℕ) × (first_turn_reaching c (t ∷ later) p ≡ Some j) × (reach.turn ≡ k + j))
      (λ here found.
      let same : reach.turn ≡ k = subst (λ o. IfSome o (λ (r : Reach). r.turn ≡ k)) found (counted k t) in
      let first : first_turn_reaching c (t ∷ later) p ≡ Some 0 = grind (arith, here) in
      (0, first, omega (arith, same)))
      (λ further found.
      let (j, there, same) = found_turn (suc k) later reach found in
      let next : first_turn_reaching c (t ∷ later) p ≡ Some (suc j) = grind (arith, further, there) in
      (suc j, next, omega (arith, same))) is

  -- the same of turns that count from 0
  pub found_turn_from_0 : (turns : List Turn) → IfSome (reach_from c 0 turns p) (λ reach. first_turn_reaching c turns p ≡ Some reach.turn)
  found_turn_from_0 turns = go (reach_from c 0 turns p) refl
    where
      go : (o : Option Reach) → reach_from c 0 turns p ≡ o → IfSome o (λ reach. first_turn_reaching c turns p ≡ Some reach.turn)
      go None is = tt
      go (Some reach) is = (let (j, there, same) = found_turn 0 turns reach is in let zero : j ≡ reach.turn = omega (arith, same) in there ∙ ap Some zero)
