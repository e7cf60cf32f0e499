-- What the words give, one after the other.
use Rattle.std.proofs.Common.{◌≡◌, ℕ, ◌+◌, List, [], ◌∷◌, ◌++◌, Bool, true, false, Option, Some, None, drop, map, option_map, refl, sym, ap, inl, inr}
use Rattle.std.proofs.lemmas.Bool.{cases_Bool}
use Rattle.std.proofs.lemmas.List.{append_assoc, drop-drop}
use Rattle.aud_cli.specs.Given.{Given, Words, alone_or_number, file, given_from, takes_number, takes_value}
use Rattle.aud_cli.specs.Private.Steps.{is_end, next_given}

-- at the end the words give the files after --
pub ended : (may_be : Bool) (words : Words) → is_end words ≡ true → given_from may_be words ≡ Some (map (λ w. file w.now) (drop 1 words))
ended may_be [] is = refl
ended may_be (word ∷ []) is = rw is refl
ended may_be (word ∷ next ∷ words) is = rw is refl

-- two pairs that are there are the same in both parts
same_pair : (x y : Given) (m n : ℕ) → ◌≡◌ {A = Option (Given × ℕ)} (Some (x, m)) (Some (y, n)) → (x ≡ y) × (m ≡ n)
same_pair x y m n e =
    let same : ◌≡◌ {A = Given × ℕ} (x, m) (y, n) = cc in
    (ap (λ p. p.0) same, ap (λ p. p.1) same)

-- what is there isn't nothing
apart : {A : Type 0} (x : A) → Some x ≡ None → ⊥
apart x e = absurd (cc)

-- an option without its value gives nothing
pub refused : (may_be : Bool) (words : Words) → is_end words ≡ false → next_given may_be words ≡ None → given_from may_be words ≡ None
refused may_be [] more none = absurd (cc)
refused may_be (word ∷ []) more none = elim (cases_Bool (takes_value word.now)) [
  | inl takes ↦ rw (more, takes) refl
  | inr other ↦ absurd (apart _ (rw other at none))
]
refused may_be (word ∷ next ∷ words) more none = elim (cases_Bool (takes_value word.now)) [
  | inl takes ↦ absurd (apart _ (rw takes at none))
  | inr other ↦ absurd (apart _ (rw other at none))
]

-- what stands first is given before what the words after it give
pub given_first : (may_be : Bool) (words : Words) (given : Given) (count : ℕ) → is_end words ≡ false → next_given may_be words ≡ Some (given, count)
    → given_from may_be words ≡ option_map (λ more. given ∷ more) (given_from (takes_number given) (drop count words))
given_first may_be [] given count more next = absurd (cc)
given_first may_be (word ∷ []) given count more next = elim (cases_Bool (takes_value word.now)) [
  | inl takes ↦ absurd (apart _ (sym (rw takes at next)))
  | inr other ↦
      let same = same_pair (alone_or_number may_be word.now) given 1 count (rw other at next) in
      rw (← same.0, ← same.1, more, other) refl
]
given_first may_be (word ∷ value ∷ words) given count more next = elim (cases_Bool (takes_value word.now)) [
  | inl takes ↦
      let whole : Given = record { name = word.now; value = value.now } in
      let same = same_pair whole given 2 count (rw takes at next) in
      rw (← same.0, ← same.1, more, takes) refl
  | inr other ↦
      let same = same_pair (alone_or_number may_be word.now) given 1 count (rw other at next) in
      rw (← same.0, ← same.1, more, other) refl
]

-- what is given so far, and then one more
pub one_more : (found : List Given) (given : Given) (rest : Option (List Given))
    → option_map (λ more. (found ++ given ∷ []) ++ more) rest ≡ option_map (λ more. found ++ more) (option_map (λ more. given ∷ more) rest)
one_more found given None = refl
one_more found given (Some more) = ap Some (append_assoc found (given ∷ []) more)

-- what is found so far, and then one more, with what the words after it give, is all
pub step : (may_be : Bool) (words : Words) (at count : ℕ) (found : List Given) (given : Given) (all : Option (List Given))
    → option_map (λ more. found ++ more) (given_from may_be (drop at words)) ≡ all → is_end (drop at words) ≡ false
    → next_given may_be (drop at words) ≡ Some (given, count)
    → option_map (λ more. (found ++ given ∷ []) ++ more) (given_from (takes_number given) (drop (at + count) words)) ≡ all
step may_be words at count found given all so_far more next =
    rw (one_more found given (given_from (takes_number given) (drop (at + count) words)), ← drop-drop count at words, ← given_first may_be (drop at words) given count more next) so_far

-- what is found so far, and then the files, is all
pub whole : (may_be : Bool) (words : Words) (at : ℕ) (found : List Given) (all : Option (List Given))
    → option_map (λ more. found ++ more) (given_from may_be (drop at words)) ≡ all → is_end (drop at words) ≡ true
    → Some (found ++ map (λ w. file w.now) (drop 1 (drop at words))) ≡ all
whole may_be words at found all so_far is = let e = ended may_be (drop at words) is in rw e at so_far
