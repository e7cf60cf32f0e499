-- The next records of the logs that aren't finished, log after log.
use Rattle.std.proofs.Common.{◌≡◌, ◌+◌, ◌<◌, ◌≤◌, ℕ, zero, suc, Bool, true, false, cond, List, [], ◌∷◌, ◌++◌, Some, option_map, slice_get, refl, ap, sym, ◌∙◌, ◌⊎◌, inl, inr, nat_lt, arith}
use Rattle.std.proofs.lemmas.Bool.{lt-ltb, le-ltb}
use Rattle.aud_tap.specs.declared.taps.Tap.{Tap}
use Rattle.aud_node.specs.Cluster.{Cluster}
use Rattle.aud_merge.specs.declared.step.Step.{Step}
use Rattle.aud_merge.specs.Machine.{State, taken_of}
use Rattle.aud_merge.specs.Runs.{front, log_length, record_count}
use Rattle.aud_merge.specs.Order.{unfinished_fronts}

-- those of one log more
pub fronts-more : (c : Cluster) (st : State) (count place last : ℕ) → last ≡ place + count
    → unfinished_fronts c st place (suc count) ≡ unfinished_fronts c st place count ++ cond (nat_lt (taken_of st last) (record_count c last)) (front st last ∷ []) []
fronts-more c st zero place last e = let same : last ≡ place = omega arith in grind (arith, same)
fronts-more c st (suc count) place last e = let same : last ≡ suc place + count = omega arith in grind (arith, fronts-more c st count (suc place) last same)

-- a log that was looked at
module _ (c : Cluster) (st : State) (log : ℕ) (tap : Tap) (index count : ℕ) (old new : List Step) (at : slice_get c.taps log ≡ Some tap) (is_index : index ≡ taken_of st log) (is_count : count ≡ log_length (Some tap.records)) (was : old ≡ unfinished_fronts c st 0 log) where
  -- how long it is
  counts : record_count c log ≡ count
  counts = ap (λ o. log_length (option_map (λ (t : Tap). t.records) o)) at ∙ sym is_count

  -- those of one log more
  more : unfinished_fronts c st 0 (log + 1) ≡ unfinished_fronts c st 0 log ++ cond (nat_lt (taken_of st log) (record_count c log)) (front st log ∷ []) []
  more = let one : log + 1 ≡ suc log = omega arith in ap (unfinished_fronts c st 0) one ∙ fronts-more c st log 0 log (omega arith)

  -- whether it is finished
  test : (b : Bool) → nat_lt index count ≡ b → nat_lt (taken_of st log) (record_count c log) ≡ b
  test b e = ap (nat_lt (taken_of st log)) counts ∙ ap (λ i. nat_lt i count) (sym is_index) ∙ e

  -- its next record is among them, if there is one
  pub fronts-on : ((index < count) × (new ≡ old ++ (record { log = log; index = index }) ∷ [])) ⊎ ((count ≤ index) × (new ≡ old)) → new ≡ unfinished_fronts c st 0 (log + 1)
  fronts-on (inl step) =
      step.1
      ∙ ap (λ (xs : List Step). xs ++ (record { log = log; index = index }) ∷ []) was
      ∙ ap (λ (i : ℕ). unfinished_fronts c st 0 log ++ (record { log = log; index = i }) ∷ []) is_index
      ∙ ap (λ b. unfinished_fronts c st 0 log ++ cond b (front st log ∷ []) []) (sym (test true (lt-ltb index count step.0)))
      ∙ sym more
  fronts-on (inr step) =
      step.1
      ∙ was
      ∙ append-none (unfinished_fronts c st 0 log)
      ∙ ap (λ b. unfinished_fronts c st 0 log ++ cond b (front st log ∷ []) []) (sym (test false (le-ltb index count step.0)))
      ∙ sym more
    where
      append-none : (xs : List Step) → xs ≡ xs ++ []
      append-none [] = refl
      append-none (x ∷ xs) = ap (λ (ys : List Step). x ∷ ys) (append-none xs)
