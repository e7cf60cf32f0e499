-- Numbers that are written in decimal digits, read again.
use Rattle.std.proofs.Common.{◌≡◌, ℕ, zero, suc, ◌+◌, ◌-◌, ◌*◌, ◌/◌, ◌%◌, ◌^◌, ◌<◌, ◌≤◌, ◌==◌, nat_lt, List, [], ◌∷◌, ◌++◌, length, true, false, cond, Option, Some, None, refl, ap, ◌∙◌, arith}
use Rattle.std.specs.Option.{option_and_then}
use Rattle.std.specs.Char.{digit_char}
use Rattle.std.specs.Fmt.{decimal, digits, digits_onto}
use Rattle.std.proofs.lemmas.Bool.{ne_eqb, lt-ltb, le-leb}
use Rattle.std.proofs.lemmas.Fmt.{decimal_by_steps, decimal_nonempty}
use Rattle.aud_parts.specs.Cut.{with_digit, number_after, number_in}
use Rattle.aud_parts.proofs.CutLemmas.{has_byte}

-- ---- a loop over the digits

-- a text that isn't empty is read from its first digit on
pub number_in-some : (text : List ℕ) → 0 < length text → number_in text ≡ number_after 0 text
number_in-some [] some = absurd (omega arith)
number_in-some (b ∷ text) some = refl

-- ---- what was written

-- digits after others
number_after-append : (number : ℕ) (xs ys : List ℕ) → number_after number (xs ++ ys) ≡ option_and_then (λ more. number_after more ys) (number_after number xs)
number_after-append number [] ys = refl
number_after-append number (x ∷ xs) ys = go (with_digit number x) (λ more. number_after-append more xs ys)
  where
    go : (next : Option ℕ) → ((more : ℕ) → number_after more (xs ++ ys) ≡ option_and_then (λ m. number_after m ys) (number_after more xs))
        → option_and_then (λ more. number_after more (xs ++ ys)) next ≡ option_and_then (λ m. number_after m ys) (option_and_then (λ more. number_after more xs) next)
    go None ih = refl
    go (Some next) ih = ih next

-- a digit that fits
digit-read : (number digit : ℕ) → digit < 10 → number * 10 + digit < 2 ^ 64 → with_digit number (48 + digit) ≡ Some (number * 10 + digit)
digit-read number digit low fits =
    let value : number * 10 + ((48 + digit) - 48) ≡ number * 10 + digit = omega arith in
    rw (le-leb 48 (48 + digit) (omega arith), le-leb (48 + digit) 57 (omega arith), value, lt-ltb (number * 10 + digit) (2 ^ 64) fits) refl

-- a number that was written is read as it was
pub number-back : (n : ℕ) → n < 2 ^ 64 → number_in (decimal n) ≡ Some n
number-back n small =
    number_in-some (decimal n) (decimal_nonempty n small)
    ∙ decimal_by_steps (λ m ds. m < 2 ^ 64 → number_after 0 ds ≡ Some m) one more n small small
  where
    one : (m : ℕ) → m < 10 → m < 2 ^ 64 → number_after 0 ((48 + m) ∷ []) ≡ Some m
    one m low fits =
        let value : 0 * 10 + m ≡ m = omega arith in
        ap (option_and_then (λ next. number_after next [])) (digit-read 0 m low (omega arith)) ∙ ap Some value

    more : (m : ℕ) (ds : List ℕ) → 10 ≤ m → (m / 10 < 2 ^ 64 → number_after 0 ds ≡ Some (m / 10)) → m < 2 ^ 64 → number_after 0 (ds ++ ((48 + m % 10) ∷ [])) ≡ Some m
    more m ds high ih fits =
        let value : m / 10 * 10 + m % 10 ≡ m = omega arith in
        number_after-append 0 ds ((48 + m % 10) ∷ [])
        ∙ ap (option_and_then (λ next. number_after next ((48 + m % 10) ∷ []))) (ih (omega arith))
        ∙ ap (option_and_then (λ next. number_after next [])) (digit-read (m / 10) (m % 10) (omega arith) (omega arith))
        ∙ ap Some value

-- ---- no blank and no newline

-- a digit is above both
digit-above : (byte d : ℕ) → byte < 48 → (digit_char d == byte) ≡ false
digit-above byte d low = elim (nat_lt d 10) as (λ b. (cond b (48 + d) (87 + d) == byte) ≡ false) [
  | true ↦ ne_eqb (48 + d) byte (λ e. absurd (omega arith))
  | false ↦ ne_eqb (87 + d) byte (λ e. absurd (omega arith))
]

digits-without : (byte k n : ℕ) (acc : List ℕ) → byte < 48 → has_byte byte acc ≡ false → has_byte byte (digits_onto k 10 false n acc) ≡ false
digits-without byte zero n acc low h = h
digits-without byte (suc k) n acc low h =
    let more : has_byte byte (digit_char (n % 10) ∷ acc) ≡ false = rw (digit-above byte (n % 10) low) h in
    elim (n / 10 == 0) as (λ b. has_byte byte (cond b (digit_char (n % 10) ∷ acc) (digits_onto k 10 false (n / 10) (digit_char (n % 10) ∷ acc))) ≡ false) [
      | true ↦ more
      | false ↦ digits-without byte k (n / 10) (digit_char (n % 10) ∷ acc) low more
    ]

-- a number has no byte below its digits
pub decimal-without : (byte n : ℕ) → byte < 48 → has_byte byte (decimal n) ≡ false
unfolding digits
decimal-without byte n low = digits-without byte 64 n [] low refl
