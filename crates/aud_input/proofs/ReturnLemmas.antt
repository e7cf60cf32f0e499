-- A carriage return at a line's end belongs to no name.
use Rattle.std.proofs.Common.{◌≡◌, ℕ, suc, ◌+◌, ◌-◌, ◌<◌, ◌≤◌, ◌==◌, nat_lt, List, [], ◌∷◌, length, take, Bool, true, false, cond, not, ◌⊎◌, inl, inr, None, min, refl, sym, ap, ◌∙◌, arith, ◌&&◌, slice_index}
use Rattle.std.proofs.lemmas.Bool.{cases_Bool, cases_lt, ltb-true, eqb-true, and_parts}
use Rattle.std.proofs.Math.ListN.{length-take}
use Rattle.aud_tap.specs.Forms.{passing}
use Rattle.aud_tap.specs.TapName.{is_tap_name}
use Rattle.aud_reader.specs.Lines.{without_return}
use Rattle.aud_input.specs.LineName.{name_of}
use Rattle.aud_input.proofs.NameLemmas.{before, name_before, name_of-before, before-take, before-past, take-take, itself, same_test}

not-false : (b : Bool) → not b ≡ false → b ≡ true
not-false true e = refl
not-false false e = cc

-- the byte after those before the first blank is that blank
blank-at : (l : List ℕ) → before l < length l → slice_index l (before l) ≡ 32
blank-at [] h = absurd (omega arith)
blank-at (x ∷ l) h =
    elim (not (x == 32)) as (λ b. not (x == 32) ≡ b → cond b (1 + before l) 0 < suc (length l) → slice_index (x ∷ l) (cond b (1 + before l) 0) ≡ 32) [
      | true ↦ λ e short. let more : 1 + before l ≡ suc (before l) = omega arith in ap (slice_index (x ∷ l)) more ∙ blank-at l (omega (arith, short))
      | false ↦ λ e short. eqb-true x 32 (not-false (x == 32) e)
    ] refl h

no_name : (n : ℕ) (l : List ℕ) → length l ≤ n → name_before n l ≡ None
no_name n l h = elim (cases_Bool (nat_lt n (length l))) [
  | inl short ↦ let e = ltb-true _ _ short in absurd (omega (arith, e, h))
  | inr long ↦ rw long refl
]

-- without its last byte, which isn't a blank, a line has the same name
name-shorter : (l : List ℕ) (k : ℕ) → length l ≡ suc k → slice_index l k ≡ 13 → name_of (take k l) ≡ name_of l
name-shorter l k size last = name_of-before (take k l) ∙ cases (cases_lt (before l) k) ∙ sym (name_of-before l)
  where
    sized : length (take k l) ≡ min k (length l)
    sized = length-take k l

    ends : before l ≡ k → ⊥
    ends e =
        let blank : slice_index l (before l) ≡ 32 = blank-at l (omega (arith, size, e)) in
        let same : 13 ≡ 32 = sym last ∙ ap (slice_index l) (sym e) ∙ blank in
        omega (arith, same)

    past : k ≤ before l → before (take k l) ≡ length (take k l) → name_before (before (take k l)) (take k l) ≡ name_before (before l) l
    past long e =
        ap (λ n. name_before n (take k l)) e ∙ itself (length (take k l)) (take k l)
        ∙ sym (no_name (before l) l (elim (cases_lt k (before l)) [ inl more ↦ omega (arith, size, more) | inr least ↦ absurd (ends (omega (arith, long, least))) ]))

    cases : (before l < k) ⊎ (k ≤ before l) → name_before (before (take k l)) (take k l) ≡ name_before (before l) l
    cases (inl short) =
        ap (λ n. name_before n (take k l)) (before-take k l short)
        ∙ ap (λ t. cond (nat_lt (before l) (length (take k l))) (passing is_tap_name t) None) (take-take (before l) k l (omega arith))
        ∙ ap (λ b. cond b (passing is_tap_name (take (before l) l)) None) (same_test (before l) (length (take k l)) (length l) (λ h. omega (arith, sized, h)) (λ h. omega (arith, sized, h, short)))
    cases (inr long) = past long (before-past k l long)

-- a line has the name that it has with its carriage return
pub name-without_return : (l : List ℕ) → name_of (without_return l) ≡ name_of l
name-without_return l =
    elim (nat_lt 0 (length l) && (slice_index l (length l - 1) == 13)) as (λ b. (nat_lt 0 (length l) && (slice_index l (length l - 1) == 13)) ≡ b → name_of (cond b (take (length l - 1) l) l) ≡ name_of l) [
      | true ↦ λ e.
          let parts = and_parts (nat_lt 0 (length l)) (slice_index l (length l - 1) == 13) e in
          let some = ltb-true _ _ parts.0 in
          name-shorter l (length l - 1) (omega (arith, some)) (eqb-true _ _ parts.1)
      | false ↦ λ e. refl
    ] refl
