-- What follows a dash.
use Rattle.std.proofs.Common.{◌≡◌, ℕ, ◌+◌, ◌==◌, List, [], ◌∷◌, length, drop, slice_index, Bool, true, false, if◌then◌else◌, Option, Some, None, option_map, refl, ap, arith}
use Rattle.std.specs.Option.{MatchOption}
use Rattle.std.specs.Borrow.{Bor}
use Rattle.std.specs.Str.Pattern.{FindsCharPrefix}
use Rattle.std.proofs.lemmas.Bool.{eqb-true}
use Rattle.std.proofs.lemmas.Str.Pattern.{strip_prefix_char}

-- the clause of `strip_prefix`, in words of the bytes
pub after_dash-is : (bs : List ℕ) (r : Option (Bor (List ℕ))) → MatchOption r (FindsCharPrefix 45 bs None) (λ x. (n : ℕ) × FindsCharPrefix 45 bs (Some n) × (x.now ≡ drop n bs) × (length x.now + n ≡ length bs))
    → option_map (λ (s : Bor (List ℕ)). s.now) r ≡ (if slice_index bs 0 == 45 then Some (drop 1 bs) else None)
after_dash-is bs (Some x) h = rw (strip_prefix_char 45 bs (Some x) h (omega arith)) refl
after_dash-is [] None h = refl
after_dash-is (b ∷ bs) None h = no_dash (b == 45) refl where
  other : b ≡ 45 → ⊥
  other e = strip_prefix_char 45 (b ∷ bs) None h (omega arith) bs (ap (λ x. x ∷ bs) e)

  no_dash : (test : Bool) → (b == 45) ≡ test → None ≡ (if test then Some bs else None)
  no_dash true e = absurd (other (eqb-true b 45 e))
  no_dash false e = refl
