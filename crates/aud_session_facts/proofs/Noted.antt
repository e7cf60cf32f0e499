-- Positions that are put into a set, one by one.
use Rattle.std.proofs.Common.{◌≡◌, ◌∙◌, ◌+◌, ◌<◌, ◌||◌, ℕ, Bool, true, false, List, ap, cond, get_or, length, nat_eq, refl, sym, take}
use Rattle.std.specs.Ordering.{nat_cmp, eq_by_cmp}
use Rattle.std.specs.Cmp.{unsigned_tied}
use Rattle.std.proofs.lemmas.List.Folds.{list_any_more}
use Rattle.aud_check.specs.Difference.{has_position}

-- a member more, in front or behind
more : (b old there so_far : Bool) → old ≡ (there || so_far) → cond b true old ≡ (there || (so_far || b))
more true old true so_far e = refl
more true old false true e = refl
more true old false false e = refl
more false old true so_far e = e
more false old false true e = e
more false old false false e = e

-- the set has the positions that it had and those so far; so it is with one more
pub one_more : (positions : List ℕ) (i p : ℕ) (old new there : Bool) → i < length positions
    → new ≡ cond (eq_by_cmp nat_cmp (get_or positions i 0) p) true old → old ≡ (there || has_position (take i positions) p)
    → new ≡ (there || has_position (take (i + 1) positions) p)
one_more positions i p old new there h is was =
    is ∙ ap (λ b. cond b true old) (unsigned_tied (get_or positions i 0) p)
    ∙ more (nat_eq (get_or positions i 0) p) old there (has_position (take i positions) p) was
    ∙ ap (λ b. there || b) (sym (list_any_more (λ q. nat_eq q p) positions i 0 h))
