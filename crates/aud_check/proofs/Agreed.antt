-- How far two lists agree.
use Rattle.std.proofs.lemmas.List.Sums.{common_prefix_len-le}
use Rattle.std.proofs.lemmas.List.{length-drop}
use Rattle.std.proofs.lemmas.Bool.Decides.{nat_tests}
use Rattle.std.proofs.Common.{◌≡◌, ◌≤◌, ◌+◌, ◌↔◌, ℕ, zero, suc, true, cond, List, [], ◌∷◌, ◌++◌, length, Option, None, slice_get, refl, sym, ap, ◌∙◌, nat_eq, arith}
use Rattle.std.proofs.lemmas.Option.{none-some, slice_get_past}
use Rattle.aud_merge.specs.ByTurns.{IsPrefixOf}
use Rattle.aud_check.specs.Difference.{agreed, difference, difference_by}

-- a list that agrees up to its end stands at the front of the other
prefix_from_agreed : (xs ys : List ℕ) → length xs ≤ agreed xs ys → IsPrefixOf xs ys
prefix_from_agreed [] ys h = (ys, refl)
prefix_from_agreed (x ∷ xs) [] h = absurd (omega arith)
prefix_from_agreed (x ∷ xs) (y ∷ ys) h = grind (arith, nat_tests, prefix_from_agreed xs ys)

-- a front agrees up to its end
agreed_of_prefix : (xs rest : List ℕ) → agreed xs (xs ++ rest) ≡ length xs
agreed_of_prefix [] rest = refl
agreed_of_prefix (x ∷ xs) rest =
    let itself : nat_eq x x ≡ true = grind arith in
    ap (λ b. cond b (1 + agreed xs (xs ++ rest)) 0) itself ∙ ap (λ n. 1 + n) (agreed_of_prefix xs rest) ∙ omega arith

-- there is no difference only where the received list has ended
difference_by-none : (received due : List ℕ) (i : ℕ) (o d : Option ℕ) → difference_by received due i o d ≡ None → o ≡ None
difference_by-none received due i o d e = grind arith

-- past the end of a list there is nothing, and only there
pub ended : (xs : List ℕ) (i : ℕ) → slice_get xs i ≡ None → length xs ≤ i
ended [] i e = omega arith
ended (x ∷ xs) zero e = absurd (none-some x (sym e))
ended (x ∷ xs) (suc i) e = let h = ended xs i e in omega arith

-- there is no difference where what was received stands at the front of what was due, and only there
pub difference-none : (received due : List ℕ) → (difference received due ≡ None) ↔ IsPrefixOf received due
difference-none received due = (there, back)
  where
    at : ℕ
    at = agreed received due

    there : difference received due ≡ None → IsPrefixOf received due
    there e = prefix_from_agreed received due (ended received at (difference_by-none received due at (slice_get received at) (slice_get due at) e))

    back : IsPrefixOf received due → difference received due ≡ None
    back (rest, is) =
        let all : at ≡ length received = ap (agreed received) (sym is) ∙ agreed_of_prefix received rest in
        ap (λ o. difference_by received due at o (slice_get due at)) (slice_get_past received at (omega arith))

-- past the end of either list no more agrees
pub ruleset agreed_ends = (common_prefix_len-le, length-drop)
