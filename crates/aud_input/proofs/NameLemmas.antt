-- The name that a line begins with stands in the line's front.
use Rattle.std.proofs.Common.{◌≡◌, ℕ, zero, suc, ◌+◌, ◌<◌, ◌≤◌, ◌==◌, nat_lt, nat_le, List, [], ◌∷◌, length, take, Bool, true, false, cond, not, ◌⊎◌, inl, inr, Option, None, refl, sym, ap, ◌∙◌, arith, ◌&&◌}
use Rattle.std.specs.List.{prefix_len, list_all}
use Rattle.std.proofs.lemmas.Bool.{cases_Bool, cases_lt, ltb-true, lt-ltb, leb-true}
use Rattle.std.proofs.Math.ListN.{length-take}
use Rattle.aud_tap.specs.Forms.{passing}
use Rattle.aud_tap.specs.TapName.{is_tap_name, is_name_byte}
use Rattle.aud_input.specs.LineName.{name_of}

-- how many bytes stand before the first blank
abbrev pub before : List ℕ → ℕ
before l = prefix_len (λ b. not (b == 32)) l

-- the name, by how many bytes stand before the first blank
abbrev pub name_before : ℕ → List ℕ → Option (List ℕ)
name_before n l = cond (nat_lt n (length l)) (passing is_tap_name (take n l)) None

pub name_of-before : (l : List ℕ) → name_of l ≡ name_before (before l) l
name_of-before l = elim (nat_lt (before l) (length l)) as (λ b.
    Rattle.std.specs.Option.option_and_then (λ (parts : List ℕ × List ℕ). passing is_tap_name parts.0) (Rattle.std.proofs.Common.option_map (λ i. (take i l, Rattle.std.proofs.Common.drop (i + 1) l)) (cond b (Rattle.std.proofs.Common.Some (before l)) None)) ≡ cond b (passing is_tap_name (take (before l) l)) None) [
      | true ↦ refl
      | false ↦ refl
    ]

before-step : (x : ℕ) (k n m : ℕ) → (b : Bool) → cond b (1 + m) 0 < suc k → (m < k → n ≡ m) → cond b (1 + n) 0 ≡ cond b (1 + m) 0
before-step x k n m true short ih = ap (λ i. 1 + i) (ih (omega (arith, short)))
before-step x k n m false short ih = refl

-- in a front that has the first blank, as many bytes stand before it
pub before-take : (k : ℕ) (l : List ℕ) → before l < k → before (take k l) ≡ before l
before-take zero l h = absurd (omega arith)
before-take (suc k) [] h = refl
before-take (suc k) (x ∷ l) h = before-step x k (before (take k l)) (before l) (not (x == 32)) h (before-take k l)

past-step : (k n m size : ℕ) → (b : Bool) → suc k ≤ cond b (1 + m) 0 → (k ≤ m → n ≡ size) → cond b (1 + n) 0 ≡ suc size
past-step k n m size true long ih = let rest = ih (omega (arith, long)) in omega (arith, rest)
past-step k n m size false long ih = absurd (omega (arith, long))

-- a front without a blank is all before it
pub before-past : (k : ℕ) (l : List ℕ) → k ≤ before l → before (take k l) ≡ length (take k l)
before-past zero l h = refl
before-past (suc k) [] h = refl
before-past (suc k) (x ∷ l) h = past-step k (before (take k l)) (before l) (length (take k l)) (not (x == 32)) h (before-past k l)

pub take-take : (n k : ℕ) (l : List ℕ) → n ≤ k → take n (take k l) ≡ take n l
take-take zero k l h = refl
take-take (suc n) zero l h = absurd (omega arith)
take-take (suc n) (suc k) [] h = refl
take-take (suc n) (suc k) (x ∷ l) h = ap (λ xs. x ∷ xs) (take-take n k l (omega arith))

-- a text of 33 bytes or more is no tap's name
long-not_name : (t : List ℕ) → 32 < length t → is_tap_name t ≡ false
long-not_name t h = elim (cases_Bool (nat_le (length t) 32)) [
  | inl short ↦ let le = leb-true _ _ short in absurd (omega (arith, le, h))
  | inr long ↦ rw long (go (nat_le 1 (length t)))
]
  where
    go : (b : Bool) → ((b && false) && list_all is_name_byte t) ≡ false
    go true = refl
    go false = refl

not-passing : (t : List ℕ) → is_tap_name t ≡ false → passing is_tap_name t ≡ None
not-passing t h = rw h refl

pub same_test : (a b c : ℕ) → (a < b → a < c) → (a < c → a < b) → nat_lt a b ≡ nat_lt a c
same_test a b c f g = elim (cases_Bool (nat_lt a b)) [
  | inl yes1 ↦ yes1 ∙ sym (lt-ltb a c (f (ltb-true _ _ yes1)))
  | inr no1 ↦ elim (cases_Bool (nat_lt a c)) [
    | inl yes2 ↦ lt-ltb a b (g (ltb-true _ _ yes2)) ∙ sym yes2
    | inr no2 ↦ no1 ∙ sym no2
  ]
]

pub itself : (n : ℕ) (t : List ℕ) → cond (nat_lt n n) (passing is_tap_name (take n t)) None ≡ None
itself n t = elim (cases_Bool (nat_lt n n)) [
  | inl h ↦ let e = ltb-true _ _ h in absurd (omega (arith, e))
  | inr h ↦ rw h refl
]

-- the front has the name
name_of-front-at : (k : ℕ) (l : List ℕ) → 32 < k → name_of (take k l) ≡ name_of l
name_of-front-at k l wide = name_of-before (take k l) ∙ cases (cases_lt (before l) k) ∙ sym (name_of-before l)
  where
    size : length (take k l) ≡ Rattle.std.proofs.Common.min k (length l)
    size = length-take k l

    none : (b : Bool) (t : List ℕ) → is_tap_name t ≡ false → cond b (passing is_tap_name t) None ≡ None
    none true t h = not-passing t h
    none false t h = refl

    -- the front has no blank
    past : k ≤ before l → before (take k l) ≡ length (take k l) → name_before (before (take k l)) (take k l) ≡ None
    past long e = ap (λ n. cond (nat_lt n (length (take k l))) (passing is_tap_name (take n (take k l))) None) e ∙ itself (length (take k l)) (take k l)

    -- what stands before the line's first blank is too long
    far : k ≤ before l → (nat_lt (before l) (length l) ≡ true) ⊎ (nat_lt (before l) (length l) ≡ false) → name_before (before l) l ≡ None
    far long (inr no1) = rw no1 refl
    far long (inl yes1) =
        let within = ltb-true _ _ yes1 in
        let sized = length-take (before l) l in
        ap (λ b. cond b (passing is_tap_name (take (before l) l)) None) yes1 ∙ not-passing (take (before l) l) (long-not_name (take (before l) l) (omega (arith, within, sized, long, wide)))

    cases : (before l < k) ⊎ (k ≤ before l) → name_before (before (take k l)) (take k l) ≡ name_before (before l) l
    cases (inl short) =
        ap (λ n. name_before n (take k l)) (before-take k l short)
        ∙ ap (λ t. cond (nat_lt (before l) (length (take k l))) (passing is_tap_name t) None) (take-take (before l) k l (omega arith))
        ∙ ap (λ b. cond b (passing is_tap_name (take (before l) l)) None) (same_test (before l) (length (take k l)) (length l) (λ h. omega (arith, size, h)) (λ h. omega (arith, size, h, short)))
    cases (inr long) = past long (before-past k l long) ∙ sym (far long (cases_Bool (nat_lt (before l) (length l))))

pub name_of-front : (l : List ℕ) → name_of (take 33 l) ≡ name_of l
name_of-front l = name_of-front-at 33 l (omega arith)
