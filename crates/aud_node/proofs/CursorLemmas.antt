-- Cursors and their order, record after record.
use Rattle.std.proofs.Common.{◌≡◌, ℕ, ◌+◌, suc, Bool, List, [], ◌∷◌, ◌++◌, length, map, refl, ap, arith, ◌&&◌, ◌==◌, not, Some, slice_get}
use Rattle.std.specs.List.{list_all}
use Rattle.std.proofs.lemmas.List.{map-append}
use Rattle.std.proofs.lemmas.List.Folds.{list_all-append}
use Rattle.std.proofs.lemmas.Option.{slice_get-map}
use Rattle.std.proofs.lemmas.Bool.Decides.{nat_tests}
use Rattle.aud_tap.specs.declared.records.StreamRec.{StreamRec}
use Rattle.aud_tap.specs.declared.records.NodeRec.{NodeRec}
use Rattle.aud_base.proofs.Truth.{and_true}
use Rattle.aud_base.proofs.Numbers.{numbers_from-more, slice_get-numbers}
use Rattle.aud_node.specs.Lists.{numbers_from}
use Rattle.aud_node.specs.Cursors.{cursor_at, next_cursor}
use Rattle.aud_node.specs.Private.CursorIndex.{cursors_after}
use Rattle.aud_node.specs.NodeTap.{cursor_after}
use Rattle.aud_node.specs.Ordered.{is_in_order, is_some_in_order, is_ordered}

-- the record with this number is in order
abbrev pub is_in_order_at : List StreamRec → List NodeRec → ℕ → Bool
is_in_order_at stream log number = is_some_in_order stream number (cursor_at stream log number) (slice_get log number)

-- the cursor that is kept after the record with this number
pub cursors_after-read : (stream : List StreamRec) (log : List NodeRec) (k : ℕ) → slice_get (cursors_after stream log) k ≡ cursor_after (record { stream = stream; recs = log }) k
cursors_after-read stream log k =
    grind (arith, slice_get-map (λ number. cursor_at stream log (suc number)) (numbers_from 0 (length log)) k, slice_get-numbers 0 log k)

module _ (stream : List StreamRec) (log : List NodeRec) (i : ℕ) (rec : NodeRec) (here : slice_get log i ≡ Some rec) where
  -- the cursors with one record more
  pub cursor_at-more : cursor_at stream log (i + 1) ≡ next_cursor stream i rec (cursor_at stream log i)
  cursor_at-more = grind (arith, here)

  -- whether it is in order, by the cursor before it
  pub is_in_order_at-here : is_in_order_at stream log i ≡ is_in_order stream i (cursor_at stream log i) rec
  is_in_order_at-here = ap (is_some_in_order stream i (cursor_at stream log i)) here

-- a log is ordered where it isn't empty and each of its records is in order
pub is_ordered-all : (stream : List StreamRec) (log : List NodeRec) → is_ordered stream log ≡ (not (length log == 0) && list_all (is_in_order_at stream log) (numbers_from 0 (length log)))
is_ordered-all stream [] = refl
is_ordered-all stream (first ∷ others) =
    grind (arith, nat_tests)

-- the cursors after the first records, with one record more
pub cursors-more : (f : ℕ → ℕ) (i c : ℕ) (kept : List ℕ) → kept ≡ map f (numbers_from 0 i) → c ≡ f i → kept ++ c ∷ [] ≡ map f (numbers_from 0 (i + 1))
cursors-more f i c kept is last =
    grind (arith, is, last, numbers_from-more i, map-append f (numbers_from 0 i) (i ∷ []))

-- whether all numbers pass, with one number more
pub all-more : (p : ℕ → Bool) (i : ℕ) (some kept : Bool) → kept ≡ (some && list_all p (numbers_from 0 i)) → (kept && p i) ≡ (some && list_all p (numbers_from 0 (i + 1)))
all-more p i some kept is = grind (arith, is, numbers_from-more i, list_all-append p (numbers_from 0 i) (i ∷ []), and_true (p i))
