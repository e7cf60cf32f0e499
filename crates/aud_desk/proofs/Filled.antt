-- Verdicts put at their places.
use Rattle.std.proofs.Common.{◌≡◌, ◌≢◌, ℕ, zero, suc, ◌<◌, ◌≤◌, ◌⊎◌, Bool, true, false, List, [], ◌∷◌, ◌++◌, length, set, All, Contains, Some, None, Option, sym, refl, ap, ◌∙◌, subst, inl, inr, ⊎_elim, arith, eq-eqb, ne_eqb, nat_lt, ltb-false, ltb-true}
use Rattle.std.specs.Prelude.{slice_get}
use mathlib.Core.Logic.{dite}
use native.Mathlib.Decide.{ℕ_discrete}
use Rattle.aud_verdict.specs.declared.verdict.Verdict.{Verdict}
use Rattle.aud_desk.specs.declared.entry.Entry.{Entry}
use Rattle.aud_desk.specs.Draws.{is_same, times, below}
use Rattle.aud_desk.specs.Slots.{HasVerdict, IsFull}
use Rattle.aud_desk.specs.Workers.{entry_of, indices, HasEntry}
use Rattle.aud_desk.specs.declared.worker.Worker.{Worker}

module _ {X : Type 0} where
  -- what stands at a place after it was set
  pub get-set_same : (xs : List X) (j : ℕ) (x : X) → j < length xs → slice_get (set xs j x) j ≡ Some x
  get-set_same [] j x h = absurd (omega arith)
  get-set_same (y ∷ ys) zero x h = refl
  get-set_same (y ∷ ys) (suc j) x h = get-set_same ys j x (omega arith)

  -- and at every other place
  pub get-set_other : (xs : List X) (j i : ℕ) (x : X) → i ≢ j → slice_get (set xs j x) i ≡ slice_get xs i
  get-set_other [] j i x h = refl
  get-set_other (y ∷ ys) zero zero x h = absurd (h refl)
  get-set_other (y ∷ ys) zero (suc i) x h = refl
  get-set_other (y ∷ ys) (suc j) zero x h = refl
  get-set_other (y ∷ ys) (suc j) (suc i) x h = get-set_other ys j i x (λ e. h (ap suc e))

-- the verdict that is at a place was there before, or is the entry's, whose place it is
pub put-found : (slots : List (Option Verdict)) (e : Entry) (i : ℕ) (verdict : Verdict) → e.index < length slots → HasVerdict (set slots e.index (Some e.verdict)) i verdict
    → HasVerdict slots i verdict ⊎ (e ≡ entry_of i verdict)
put-found slots e i verdict room has = dite (ℕ_discrete i e.index)
    (λ same. let at : slice_get (set slots e.index (Some e.verdict)) e.index ≡ Some (Some verdict) = subst (λ (j : ℕ). HasVerdict (set slots e.index (Some e.verdict)) j verdict) same has in
    let is : Some (Some e.verdict) ≡ Some (Some verdict) = sym (get-set_same slots e.index (Some e.verdict) room) ∙ at in
    let mine : e.verdict ≡ verdict = cc in
    let index : e.index ≡ i = sym same in
    inr (λ k. record { index = index k; verdict = mine k }))
    (λ apart. inl (sym (get-set_other slots e.index i (Some e.verdict) apart) ∙ has))

-- after an entry was put, its place is full, and each that was
pub put-full : (slots : List (Option Verdict)) (e : Entry) (i : ℕ) → e.index < length slots → (i ≡ e.index) ⊎ IsFull slots i → IsFull (set slots e.index (Some e.verdict)) i
put-full slots e i room was =
    let here : i ≡ e.index → IsFull (set slots e.index (Some e.verdict)) i = λ same. subst (IsFull (set slots e.index (Some e.verdict))) (sym same) (e.verdict, get-set_same slots e.index (Some e.verdict) room) in
    ⊎_elim here
    (λ full. dite (ℕ_discrete i e.index) here (λ apart. (full.0, get-set_other slots e.index i (Some e.verdict) apart ∙ full.1)))
    was

-- an index among entries is that of the last, or of one before
pub times-last : (es : List Entry) (e : Entry) (i : ℕ) → 0 < times i (indices (es ++ e ∷ [])) → (i ≡ e.index) ⊎ (0 < times i (indices es))
times-last [] e i h = dite (ℕ_discrete e.index i) (λ same. inl (sym same)) (λ apart. let z : is_same i e.index ≡ 0 = rw (ne_eqb e.index i apart) refl in absurd (omega arith))
times-last (x ∷ xs) e i h = dite (ℕ_discrete x.index i)
    (λ same. inr (let o : is_same i x.index ≡ 1 = rw (eq-eqb x.index i same) refl in omega arith))
    (λ apart. let z : is_same i x.index ≡ 0 = rw (ne_eqb x.index i apart) refl in ⊎_elim inl (λ more. inr (omega arith)) (times-last xs e i (omega arith)))

-- the numbers below n are as often among those below n
pub times-below : (n i : ℕ) (xs : List ℕ) → i < n → times i (below n xs) ≡ times i xs
times-below n i [] h = refl
times-below n i (x ∷ xs) h = by_test n i x xs h (times-below n i xs h) (nat_lt x n) refl
  where
    by_test : (n i x : ℕ) (xs : List ℕ) → i < n → times i (below n xs) ≡ times i xs → (b : Bool) → nat_lt x n ≡ b → times i (below n (x ∷ xs)) ≡ times i (x ∷ xs)
    by_test n i x xs h ih true is = rw is (omega (arith, ih))
    by_test n i x xs h ih false is = let past : n ≤ x = ltb-false x n is in let apart : is_same i x ≡ 0 = rw (ne_eqb x i (λ e. absurd (omega arith))) refl in rw is (omega arith)

-- those below n are below n
all-below : (n : ℕ) (xs : List ℕ) → All (λ x. x < n) (below n xs)
all-below n [] k d h = absurd (omega arith)
all-below n (x ∷ xs) k d h = by_test n x xs (all-below n xs) (nat_lt x n) refl k d h
  where
    by_test : (n x : ℕ) (xs : List ℕ) → All (λ x. x < n) (below n xs) → (b : Bool) → nat_lt x n ≡ b → All (λ x. x < n) (below n (x ∷ xs))
    by_test n x xs rest true is = rw is (first n x (below n xs) (ltb-true x n is) rest)
      where
        first : (n x : ℕ) (ys : List ℕ) → x < n → All (λ x. x < n) ys → All (λ x. x < n) (x ∷ ys)
        first n x ys low rest zero d h = low
        first n x ys low rest (suc k) d h = rest k d (omega arith)
    by_test n x xs rest false is = rw is rest

-- the indices of entries that are numbers below n are below n
pub indices-below : (n : ℕ) (xs : List ℕ) (es : List Entry) → indices es ≡ below n xs → All (λ e. e.index < n) es
indices-below n xs es is = from_map n es (subst (All (λ x. x < n)) (sym is) (all-below n xs))
  where
    from_map : (n : ℕ) (es : List Entry) → All (λ x. x < n) (indices es) → All (λ (e : Entry). e.index < n) es
    from_map n [] h k d low = absurd (omega arith)
    from_map n (e ∷ es) h zero d low = h 0 0 (omega arith)
    from_map n (e ∷ es) h (suc k) d low = from_map n es (λ j c l. h (suc j) c (omega arith)) k d (omega arith)

-- one empty place more, and still no place has a verdict
pub none-push : (slots : List (Option Verdict)) → ((i : ℕ) (verdict : Verdict) → HasVerdict slots i verdict → ⊥) → (i : ℕ) (verdict : Verdict) → HasVerdict (slots ++ None ∷ []) i verdict → ⊥
none-push [] none zero verdict has = absurd (cc)
none-push [] none (suc i) verdict has = absurd (cc)
none-push (s ∷ ss) none zero verdict has = none 0 verdict has
none-push (s ∷ ss) none (suc i) verdict has = none-push ss (λ j v h. none (suc j) v h) i verdict has

-- the entry of a worker among all of them
pub entry-among : (ws : List Worker) (w : Worker) (i : ℕ) (verdict : Verdict) → Contains ws w → Contains w.entries.items (entry_of i verdict) → HasEntry ws i verdict
entry-among ws w i verdict among has = (w, among, has)
