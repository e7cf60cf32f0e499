-- A loop over the records of a node's log.
use Rattle.std.proofs.Common.{◌≡◌, ◌<◌, ◌+◌, ◌-◌, ℕ, zero, suc, Bool, List, [], ◌∷◌, ◌++◌, length, flat_map, Some, None, option_map, unwrap_or, slice_get, refl, sym, ap, ◌∙◌, arith, append-nil}
use Rattle.std.proofs.lemmas.Grind.{flat_map-append}
use Rattle.std.proofs.lemmas.Option.{none-some}
use Rattle.aud_tap.specs.declared.records.StreamRec.{StreamRec}
use Rattle.aud_tap.specs.declared.records.NodeRec.{NodeRec}
use Rattle.aud_base.proofs.Lists.{element_at}
use Rattle.aud_base.proofs.Numbers.{numbers_from-more}
use Rattle.aud_node.specs.Lists.{numbers_from}
use Rattle.aud_node.specs.Cursors.{cursor_at}
use Rattle.aud_upgrade.specs.declared.joins.Joins.{Joins}
use Rattle.aud_upgrade.specs.Upgraded.{takes_next, took_next, joined, upgraded_at}

module _ (stream : List StreamRec) (log : List NodeRec) where
  -- the cursor after the record before one that isn't the first
  pub cursor-there : (number : ℕ) → (number ≡ 0 → ⊥) → number < length log
      → unwrap_or (option_map (λ _. cursor_at stream log (suc (number - 1))) (slice_get log (number - 1))) 0 ≡ cursor_at stream log number
  cursor-there zero some h = absurd (some refl)
  cursor-there (suc n) some h =
      let same : suc n - 1 ≡ n = omega arith in
      let (x, at) = element_at log n (omega (arith, h)) in
      ap (λ m. unwrap_or (option_map (λ _. cursor_at stream log (suc m)) (slice_get log m)) 0) same ∙ ap (λ o. unwrap_or (option_map (λ _. cursor_at stream log (suc n)) o) 0) at

  -- there is a record with a number within the log
  pub within : (number : ℕ) → number < length log → slice_get log number ≡ None → ⊥
  within number h no' = let (x, at) = element_at log number h in none-some x (sym no' ∙ at)

module _ (joins : Joins) (stream : List StreamRec) (log : List NodeRec) where
  -- what stands for a record, by what the loop keeps
  pub emitted : (n : ℕ) (before here after : Bool) (rec : NodeRec) → before ≡ took_next joins stream log n → here ≡ takes_next joins stream log n → after ≡ takes_next joins stream log (n + 1) → slice_get log n ≡ Some rec
      → upgraded_at joins stream log n ≡ joined before here after (Some rec)
  emitted n before here after rec b h a at =
      let next : suc n ≡ n + 1 = omega arith in
      ap (λ x. joined x (takes_next joins stream log n) (takes_next joins stream log (suc n)) (slice_get log n)) (sym b)
      ∙ ap (λ x. joined before x (takes_next joins stream log (suc n)) (slice_get log n)) (sym h)
      ∙ ap (λ x. joined before here x (slice_get log n)) (ap (takes_next joins stream log) next ∙ sym a)
      ∙ ap (joined before here after) at

  -- the records so far, with one more number
  pub kept-more : (n : ℕ) (kept more : List NodeRec) → kept ≡ flat_map (upgraded_at joins stream log) (numbers_from 0 n) → upgraded_at joins stream log n ≡ more
      → kept ++ more ≡ flat_map (upgraded_at joins stream log) (numbers_from 0 (n + 1))
  kept-more n kept more is at =
      ap (λ xs. xs ++ more) is
      ∙ ap (λ xs. flat_map (upgraded_at joins stream log) (numbers_from 0 n) ++ xs) (sym at ∙ sym (append-nil (upgraded_at joins stream log n)))
      ∙ sym (flat_map-append (upgraded_at joins stream log) (numbers_from 0 n) (n ∷ []))
      ∙ ap (flat_map (upgraded_at joins stream log)) (sym (numbers_from-more n))

  -- what the next record is after
  pub took-more : (n : ℕ) (here : Bool) → here ≡ takes_next joins stream log n → here ≡ took_next joins stream log (n + 1)
  took-more n here is = let next : suc n ≡ n + 1 = omega arith in is ∙ ap (took_next joins stream log) next
