-- All positions that pass a test.
use Rattle.std.proofs.Common.{◌≡◌, ◌&&◌, ◌∙◌, ℕ, Bool, true, false, List, filter, nat_eq, refl, sym, ap, subst}
use Rattle.std.proofs.lemmas.Bool.{eq-eqb, eqb-true}
use Rattle.std.proofs.lemmas.Map.Views.{any-filter_same}
use Rattle.std.proofs.Math.Bool.{and_comm}
use Rattle.std.proofs.lemmas.List.Folds.{Any-from_list_any, list_any-from_Any}
use Rattle.std.proofs.lemmas.List.Kept.{AllPairs-from_increasing, Contains-dedup_nat, Contains-from_dedup}
use Rattle.std.proofs.lemmas.List.Sorted.{list_any-IsPermutation}
use Rattle.std.specs.List.{Contains, dedup}
use Rattle.std.specs.List.Sorted.{IsPermutation, IsStrictlyIncreasing}
use Rattle.aud_check.specs.declared.difference.Difference.{Difference}
use Rattle.aud_check.specs.declared.difference.Difference.TheVariants.{Extra, Doubled, Swapped, Lost}
use Rattle.aud_findings.specs.Private.Seen.{is_also_by}
use Rattle.aud_check.specs.Difference.{has_position}
use Rattle.aud_findings.specs.Also.{AreAllOf, is_also}

-- of those of a list that pass a test each stands in the list and passes
has_filter : (test : ℕ → Bool) (xs : List ℕ) (p : ℕ) → has_position (filter test xs) p ≡ (has_position xs p && test p)
has_filter test xs p = any-filter_same (λ q. nat_eq q p) test (test p) (λ k e. ap test (eqb-true k p e)) xs ∙ and_comm (test p) (has_position xs p)

-- those of another difference than that of an entry that was not due
pub all_also : (received due positions : List ℕ) (difference : Difference) → ((frame position : ℕ) → difference ≡ Extra frame position → ⊥)
    → AreAllOf (λ p. has_position due p && is_also_by received difference p) positions → AreAllOf (is_also received due difference) positions
all_also received due positions (Extra frame position) other all = absurd (other frame position refl)
all_also received due positions (Doubled first again position) other all = all
all_also received due positions (Swapped frame position later) other all = all
all_also received due positions (Lost frame position) other all = all

-- and of one of that
pub all_undue : (received due positions : List ℕ) (difference : Difference) (frame position : ℕ) → difference ≡ Extra frame position
    → AreAllOf (λ p. has_position received p && is_also_by due difference p) positions → AreAllOf (is_also received due difference) positions
all_undue received due positions difference frame position is =
    subst (λ d. AreAllOf (λ p. has_position received p && is_also_by due d p) positions → AreAllOf (is_also received due d) positions) (sym is) (λ all. all)

-- ---- sorted, each once

has_from : (xs : List ℕ) (p : ℕ) → Contains xs p → has_position xs p ≡ true
has_from xs p w = list_any-from_Any (λ q. nat_eq q p) xs (w.0, p, w.1, w.2, eq-eqb p p refl)

contains_from : (xs : List ℕ) (p : ℕ) → has_position xs p ≡ true → Contains xs p
contains_from xs p h = let w = Any-from_list_any (λ q. nat_eq q p) xs h in subst (Contains xs) (eqb-true w.1 p w.4) (w.0, w.2, w.3)

both_ways : (a b : Bool) → (a ≡ true → b ≡ true) → (b ≡ true → a ≡ true) → a ≡ b
both_ways true b there back = sym (there refl)
both_ways false true there back = back refl
both_ways false false there back = refl

has_dedup : (xs : List ℕ) (p : ℕ) → has_position (dedup nat_eq xs) p ≡ has_position xs p
has_dedup xs p =
    both_ways (has_position (dedup nat_eq xs) p) (has_position xs p)
    (λ h. has_from xs p (Contains-from_dedup nat_eq xs p (contains_from (dedup nat_eq xs) p h)))
    (λ h. has_from (dedup nat_eq xs) p (Contains-dedup_nat xs p (contains_from xs p h)))

-- they are those of the list
pub all_once : (xs sorted once : List ℕ) → IsPermutation xs sorted → once ≡ dedup nat_eq sorted → IsStrictlyIncreasing once → AreAllOf (has_position xs) once
all_once xs sorted once moved once_is up =
    record {
      ascending = AllPairs-from_increasing once up;
      all = λ p. ap (λ ps. has_position ps p) once_is ∙ has_dedup sorted p ∙ sym (list_any-IsPermutation (λ q. nat_eq q p) xs sorted moved);
    }

-- those that pass a test, where these are found so
pub all_passing : (test : ℕ → Bool) (xs found once : List ℕ) → found ≡ filter test xs → AreAllOf (has_position found) once → AreAllOf (λ p. has_position xs p && test p) once
all_passing test xs found once is all =
    record {
      ascending = all.ascending;
      all = λ p. all.all p ∙ ap (λ ps. has_position ps p) is ∙ has_filter test xs p;
    }
