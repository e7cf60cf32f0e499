-- How often a position was received, one more at a time.
use Rattle.std.proofs.Common.{◌≡◌, ◌<◌, ◌+◌, ◌&&◌, ◌||◌, ◌++◌, max, [], ◌∷◌, ℕ, Bool, true, false, cond, List, length, take, get_or, nat_eq, nat_lt, refl, sym, ap, ◌∙◌, arith}
use Rattle.std.proofs.lemmas.Bool.Decides.{nat_tests}
use Rattle.std.proofs.lemmas.List.Sums.{count_by_more_yes, count_by_more_no, sum_by-cons}
use Rattle.std.proofs.lemmas.List.Folds.{list_any-append}
use Rattle.std.proofs.Math.Bool.{or-false}
use Rattle.std.specs.Bool.{if◌then◌else◌}
use Rattle.std.proofs.lemmas.List.{take_more}
use Rattle.aud_check.specs.Difference.{has_position}
use Rattle.aud_findings.specs.Also.{is_late, times}
use Rattle.aud_findings.specs.Received.{greatest}

-- with one position more
pub times_more : (positions : List ℕ) (i q : ℕ) → i < length positions
    → times (take (i + 1) positions) q ≡ cond (nat_eq (get_or positions i 0) q) (times (take i positions) q + 1) (times (take i positions) q)
times_more positions i q h = go (nat_eq (get_or positions i 0) q) refl
  where
    go : (b : Bool) → nat_eq (get_or positions i 0) q ≡ b → times (take (i + 1) positions) q ≡ cond b (times (take i positions) q + 1) (times (take i positions) q)
    go true e = count_by_more_yes (λ r. nat_eq r q) positions i 0 h e
    go false e = count_by_more_no (λ r. nat_eq r q) positions i 0 h e

-- whether it was received at all
pub once_step : (b : Bool) (n m : ℕ) (old new : Bool) → m ≡ cond b (n + 1) n → old ≡ nat_lt 0 n → new ≡ cond b true old → new ≡ nat_lt 0 m
once_step true n m old new e o h = h ∙ sym (ap (nat_lt 0) e ∙ above n)
  where
    above : (k : ℕ) → nat_lt 0 (k + 1) ≡ true
    above k = grind (arith, nat_tests)
once_step false n m old new e o h = h ∙ o ∙ ap (nat_lt 0) (sym e)

-- whether it was received again
pub twice_step : (b : Bool) (n m : ℕ) (once old new : Bool) → m ≡ cond b (n + 1) n → once ≡ nat_lt 0 n → old ≡ nat_lt 1 n → new ≡ cond (b && once) true old → new ≡ nat_lt 1 m
twice_step true n m once old new e o t h =
    h ∙ (λ i. cond (o i) true (t i)) ∙ either n ∙ sym (ap (nat_lt 1) e)
  where
    either : (k : ℕ) → cond (nat_lt 0 k) true (nat_lt 1 k) ≡ nat_lt 1 (k + 1)
    either k = grind (arith, nat_tests)
twice_step false n m once old new e o t h = h ∙ t ∙ ap (nat_lt 1) (sym e)

-- ---- one position more at the end

has_end : (xs : List ℕ) (y p : ℕ) → has_position (xs ++ y ∷ []) p ≡ (has_position xs p || nat_eq y p)
has_end xs y p = list_any-append (λ q. nat_eq q p) xs (y ∷ []) ∙ ap (λ b. has_position xs p || b) (or-false (nat_eq y p))

greatest_end : (xs : List ℕ) (y : ℕ) → greatest (xs ++ y ∷ []) ≡ max y (greatest xs)
greatest_end [] y = refl
greatest_end (x ∷ xs) y = ap (max x) (greatest_end xs y) ∙ swap x y (greatest xs)
  where
    swap : (a b c : ℕ) → max a (max b c) ≡ max b (max a c)
    swap a b c = omega arith

none_below : (p : ℕ) → nat_lt p 0 ≡ false
none_below p = grind (arith, nat_tests)

below_max : (p a b : ℕ) → nat_lt p (max a b) ≡ (nat_lt p a || nat_lt p b)
below_max p a b = grind (arith, nat_tests)

late_one : (a e g : Bool) → g ≡ false → (if a then false else false) ≡ (e && g)
late_one true true g none = sym none
late_one true false g none = refl
late_one false true g none = sym none
late_one false false g none = refl

late_next : (a e i l g m x y : Bool) → x ≡ (i || e) → y ≡ (l || (e && g)) → m ≡ (a || g) → (if a then x else y) ≡ ((if a then i else l) || (e && m))
late_next true true i l g m x y x_is y_is m_is = x_is ∙ ap (λ b. i || b) (sym m_is)
late_next true false i l g m x y x_is y_is m_is = x_is
late_next false e i l g m x y x_is y_is m_is = y_is ∙ ap (λ b. l || (e && b)) (sym m_is)

late_end : (xs : List ℕ) (y p : ℕ) → is_late (xs ++ y ∷ []) p ≡ (is_late xs p || (nat_eq y p && nat_lt p (greatest xs)))
late_end [] y p = late_one (nat_lt p y) (nat_eq y p) (nat_lt p 0) (none_below p)
late_end (x ∷ xs) y p =
    late_next (nat_lt p x) (nat_eq y p) (has_position xs p) (is_late xs p) (nat_lt p (greatest xs)) (nat_lt p (max x (greatest xs))) (has_position (xs ++ y ∷ []) p) (is_late (xs ++ y ∷ []) p)
    (has_end xs y p) (late_end xs y p) (below_max p x (greatest xs))

-- a position stands among them where it does so some times
pub has_times : (xs : List ℕ) (p : ℕ) → has_position xs p ≡ nat_lt 0 (times xs p)
has_times [] p = refl
has_times (x ∷ xs) p = more (nat_eq x p) (has_position xs p) (times xs p) (has_times xs p) ∙ ap (nat_lt 0) (sym (sum_by-cons (λ q. cond (nat_eq q p) 1 0) x xs))
  where
    above : (k : ℕ) → nat_lt 0 (1 + k) ≡ true
    above k = grind (arith, nat_tests)

    more : (e h : Bool) (n : ℕ) → h ≡ nat_lt 0 n → (e || h) ≡ nat_lt 0 (cond e 1 0 + n)
    more true h n is = sym (above n)
    more false h n is = let none : 0 + n ≡ n = omega arith in is ∙ ap (nat_lt 0) (sym none)

pub greatest_more : (positions : List ℕ) (i : ℕ) → i < length positions → greatest (take (i + 1) positions) ≡ max (get_or positions i 0) (greatest (take i positions))
greatest_more positions i h = ap greatest (take_more positions i 0 h) ∙ greatest_end (take i positions) (get_or positions i 0)

pub late_more : (positions : List ℕ) (i q : ℕ) → i < length positions
    → is_late (take (i + 1) positions) q ≡ (is_late (take i positions) q || (nat_eq (get_or positions i 0) q && nat_lt q (greatest (take i positions))))
late_more positions i q h = ap (λ xs. is_late xs q) (take_more positions i 0 h) ∙ late_end (take i positions) (get_or positions i 0) q

pub late_step : (a b : Bool) (old new all : Bool) → old ≡ b → new ≡ cond a true old → all ≡ (b || a) → new ≡ all
late_step true true old new all o n e = n ∙ sym e
late_step true false old new all o n e = n ∙ sym e
late_step false true old new all o n e = n ∙ o ∙ sym e
late_step false false old new all o n e = n ∙ o ∙ sym e
