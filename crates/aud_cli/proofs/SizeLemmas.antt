-- The numbers and the letters of units that texts write.
use Rattle.std.proofs.Common.{◌≡◌, ◌≢◌, ℕ, suc, ◌+◌, ◌-◌, ◌^◌, ◌<◌, ◌≤◌, ◌==◌, ◌&&◌, List, [], ◌∷◌, ◌++◌, length, take, drop, drop-cons, slice_index, Bool, true, false, refl, inl, inr, rules, arith, sym, ap, ◌∙◌, Option, Some, None, option_map, MatchOption, Result, Ok, Err, nat_le, nat_lt, eq-eqb}
use Rattle.std.specs.Borrow.{Bor}
use Rattle.std.specs.Result.{result_ok}
use Rattle.std.specs.Str.{all_ascii_digits}
use Rattle.std.specs.Str.Parse.{IsNumeral, ParsesUnsigned, digits_value, without_leading_plus}
use Rattle.std.proofs.lemmas.Bool.{cases_Bool, ltb-true, lt-ltb, eqb-true}
use Rattle.std.proofs.lemmas.Bool.Decides.{nat_tests}
use Rattle.std.proofs.lemmas.List.{length-append, take-append-le, take_all, take-append-drop, drop_all}
use lib.Seq.{get_or-append_seam}
use Rattle.std.proofs.lemmas.Str.Parse.{IsNumeralModel, numerals_by_value, tells_all_ascii_digits}
use Rattle.aud_cli.specs.Sizes.{cut_unit, ends_in, number_named, number_written}

-- ---- numbers

numerals : IsNumeralModel (λ ds. all_ascii_digits ds ≡ true) (digits_value 10)
numerals = numerals_by_value _ tells_all_ascii_digits

-- digits of a number from `least` to `most` write it
written : (least most : ℕ) (ds : List ℕ) (n : ℕ) → IsNumeral 10 ds → n ≡ digits_value 10 ds → least ≤ n → n ≤ most → number_written least most ds ≡ Some n
written least most ds n numeral value low high =
    let some : nat_lt 0 (length ds) ≡ true = lt-ltb 0 _ numeral.0 in
    grind (arith, nat_tests, some, numerals.from ds numeral.1)

-- a text that writes no number of k bits writes none up to `most`
unwritten : (k least most : ℕ) (ds : List ℕ) → most < 2 ^ k → ¬ (IsNumeral 10 ds × (digits_value 10 ds < 2 ^ k)) → number_written least most ds ≡ None
unwritten k least most [] fits none = refl
unwritten k least most (d ∷ ds) fits none = elim (cases_Bool (all_ascii_digits (d ∷ ds))) [
  | inl digits ↦ elim (cases_Bool (nat_le (digits_value 10 (d ∷ ds)) most)) [
    | inl small ↦
        let value : digits_value 10 (d ∷ ds) < 2 ^ k = grind (arith, nat_tests) in
        absurd (none ((omega arith, numerals.to (d ∷ ds) digits), value))
    | inr large ↦ grind (arith, nat_tests)
  ]
  | inr other ↦ rw other refl
]

-- the number that `parse` reads, where it is `least` to `most`, is that of the text
pub number_named-some : {E : Type 0} (k least most : ℕ) (bs : List ℕ) (r : Result ℕ E) (n : ℕ) → ParsesUnsigned k 10 bs r → Some n ≡ result_ok r → least ≤ n → n ≤ most → Some n ≡ number_named least most bs
number_named-some k least most bs (Ok m) n read is low high =
    let same : n ≡ m = cc in
    sym (written least most (without_leading_plus bs) n read.0.0 (omega (arith, read.1)) low high)
number_named-some k least most bs (Err e) n read is low high = absurd (search rules)

-- and where it reads none, the text has none
pub number_named-none : {E : Type 0} (k least most : ℕ) (bs : List ℕ) (r : Result ℕ E) → most < 2 ^ k → ParsesUnsigned k 10 bs r → None ≡ result_ok r → number_named least most bs ≡ None
number_named-none k least most bs (Ok m) fits read is = absurd (search rules)
number_named-none k least most bs (Err e) fits read is = unwritten k least most (without_leading_plus bs) fits read

-- ---- units

both : (x y : Bool) → (x && y) ≡ true → (x ≡ true) × (y ≡ true)
both true y e = (refl, e)
both false y e = absurd (cc)

-- what stands before a last letter
cut_last : (b : ℕ) (front : List ℕ) → cut_unit b (front ++ b ∷ []) ≡ Some front
cut_last b front =
    let size : length (front ++ b ∷ []) ≡ length front + 1 = length-append front (b ∷ []) in
    let less : length (front ++ b ∷ []) - 1 ≡ length front = omega (arith, size) in
    let some : nat_lt 0 (length (front ++ b ∷ [])) ≡ true = lt-ltb 0 _ (omega (arith, size)) in
    let last : slice_index (front ++ b ∷ []) (length (front ++ b ∷ []) - 1) ≡ b = rw less (get_or-append_seam front b [] 0) in
    let is : (slice_index (front ++ b ∷ []) (length (front ++ b ∷ []) - 1) == b) ≡ true = eq-eqb _ b last in
    let before : take (length (front ++ b ∷ []) - 1) (front ++ b ∷ []) ≡ front = rw less (take-append-le (length front) front (b ∷ []) (omega arith) ∙ take_all (length front) front (omega arith)) in
    rw (some, is) (ap Some before)

-- a text that ends in this byte
ends_so : (b : ℕ) (text : List ℕ) → ends_in b text ≡ true → text ≡ take (length text - 1) text ++ b ∷ []
ends_so b text ends =
    let some : 0 < length text = ltb-true 0 _ (both _ _ ends).0 in
    let last : slice_index text (length text - 1) ≡ b = eqb-true _ _ (both _ _ ends).1 in
    let rest : drop (length text - 1) text ≡ slice_index text (length text - 1) ∷ drop (suc (length text - 1)) text = drop-cons text (length text - 1) 0 (omega arith) in
    let none : drop (suc (length text - 1)) text ≡ [] = drop_all (suc (length text - 1)) text (omega arith) in
    sym (take-append-drop (length text - 1) text) ∙ ap (λ l. take (length text - 1) text ++ l) (rest ∙ rw (none, last) refl)

-- a text that doesn't end in the letter
not_last : (b : ℕ) (text : List ℕ) → ((front : List ℕ) → text ≢ front ++ b ∷ []) → cut_unit b text ≡ None
not_last b text none = elim (cases_Bool (ends_in b text)) [
  | inl ends ↦ absurd (none (take (length text - 1) text) (ends_so b text ends))
  | inr other ↦ rw other refl
]

-- what `strip_suffix` gives for a letter
pub unit_cut : (b : ℕ) (text : List ℕ) (r : Option (Bor (List ℕ)))
    → MatchOption r ((front : List ℕ) → text ≢ front ++ b ∷ []) (λ x. text ≡ x.now ++ b ∷ [])
    → option_map (λ s. s.now) r ≡ cut_unit b text
unit_cut b text None none = sym (not_last b text none)
unit_cut b text (Some x) is = sym (ap (cut_unit b) is ∙ cut_last b x.now)
