-- No written line has a newline, so what is written has the lines that were written.
use Rattle.std.proofs.Common.{◌≡◌, ℕ, pos, negsuc, zero, suc, ◌+◌, ◌/◌, ◌%◌, ◌<◌, ◌==◌, ◌||◌, nat_lt, List, [], ◌∷◌, ◌++◌, Bool, true, false, cond, refl, arith, inl, inr}
use Rattle.std.specs.Char.{digit_char}
use Rattle.std.specs.Fmt.{decimal, digits, digits_onto}
use Rattle.std.proofs.lemmas.Bool.{cases_Bool, eqb-true}
use Rattle.json.specs.Print.{escape_letter, escape_byte, escape, quoted}
use Rattle.serde_json.specs.Data.{Num, unsigned, negative, float, Data, null, boolean, number, string, array, object, Items, no_items, item, Members, no_members, member}
use Rattle.serde_json.specs.Written.{number_text, comma_if, compact_text, items_text, members_text}
use Rattle.aud_reader.specs.Lines.{has_newline}
use Rattle.aud_reader.proofs.LinesLemmas.{has_newline-append}

-- ---- bytes

-- a byte above the newline isn't it
above : (n : ℕ) → 10 < n → (n == 10) ≡ false
above n more = elim (cases_Bool (n == 10)) [ inl e ↦ let is : n ≡ 10 = eqb-true n 10 e in absurd (omega arith) | inr e ↦ e ]

-- a digit is none
digit : (d : ℕ) → (digit_char d == 10) ≡ false
digit d = elim (nat_lt d 10) as (λ b. (cond b (48 + d) (87 + d) == 10) ≡ false) [ true ↦ above (48 + d) (omega arith) | false ↦ above (87 + d) (omega arith) ]

-- a byte of which this is known, unless it is the newline
unless_newline : (P : ℕ → Type 0) (x : ℕ) → P 10 → ((x == 10) ≡ false → P x) → P x
unless_newline P x here other = elim (cases_Bool (x == 10)) [ inl e ↦ rw (eqb-true x 10 e) here | inr e ↦ other e ]

-- the letter of an escape is none
letter : (x : ℕ) → (escape_letter x == 10) ≡ false
letter x = unless_newline (λ y. (escape_letter y == 10) ≡ false) x refl (λ other. go ((x == 34) || (x == 92)) (x == 8) (x == 12) (x == 10) (x == 13) (x == 9) other)
  where
    go : (a b c d e f : Bool) → (x == 10) ≡ false → (cond a x (cond b 98 (cond c 102 (cond d 110 (cond e 114 (cond f 116 0))))) == 10) ≡ false
    go true b c d e f other = other
    go false true c d e f other = refl
    go false false true d e f other = refl
    go false false false true e f other = refl
    go false false false false true f other = refl
    go false false false false false true other = refl
    go false false false false false false other = refl

-- what stands for a byte of a text has none
escape_byte-line : (x : ℕ) → has_newline (escape_byte x) ≡ false
unfolding escape_byte
escape_byte-line x = unless_newline (λ y. has_newline (escape_byte y) ≡ false) x refl (λ other. go (nat_lt 0 (escape_letter x)) (nat_lt x 32) other)
  where
    go : (a b : Bool) → (x == 10) ≡ false → has_newline (cond a (92 ∷ escape_letter x ∷ []) (cond b (92 ∷ 117 ∷ 48 ∷ 48 ∷ digit_char (x / 16) ∷ digit_char (x % 16) ∷ []) (x ∷ []))) ≡ false
    go true b other = rw (letter x) refl
    go false true other = rw (digit (x / 16), digit (x % 16)) refl
    go false false other = rw other refl

-- nor has what stands for a text
escape-line : (s : List ℕ) → has_newline (escape s) ≡ false
escape-line [] = refl
escape-line (x ∷ s) = has_newline-append (escape_byte x) (escape s) (escape_byte-line x) (escape-line s)

quoted-line : (s : List ℕ) → has_newline (quoted s) ≡ false
quoted-line s = has_newline-append (escape s) (34 ∷ []) (escape-line s) refl

-- ---- numbers

digits-line : (k n : ℕ) (acc : List ℕ) → has_newline acc ≡ false → has_newline (digits_onto k 10 false n acc) ≡ false
digits-line zero n acc h = h
digits-line (suc k) n acc h =
    let more : has_newline (digit_char (n % 10) ∷ acc) ≡ false = rw (digit (n % 10)) h in
    elim (n / 10 == 0) as (λ b. has_newline (cond b (digit_char (n % 10) ∷ acc) (digits_onto k 10 false (n / 10) (digit_char (n % 10) ∷ acc))) ≡ false) [
      | true ↦ more
      | false ↦ digits-line k (n / 10) (digit_char (n % 10) ∷ acc) more
    ]

decimal-line : (n : ℕ) → has_newline (decimal n) ≡ false
unfolding digits
decimal-line n = digits-line 64 n [] refl

number-line : (n : Num) → has_newline (number_text n) ≡ false
number-line (unsigned n) = decimal-line n
number-line (negative (pos n)) = decimal-line n
number-line (negative (negsuc n)) = decimal-line (suc n)
number-line (float x) = refl

-- ---- values

comma-line : (later : Bool) → has_newline (comma_if later) ≡ false
comma-line true = refl
comma-line false = refl

mutual
  pub compact-line : (d : Data) → has_newline (compact_text d) ≡ false
  compact-line null = refl
  compact-line (boolean true) = refl
  compact-line (boolean false) = refl
  compact-line (number n) = number-line n
  compact-line (string s) = quoted-line s
  compact-line (array ds) = items-line false ds
  compact-line (object ms) = members-line false ms

  items-line : (later : Bool) (ds : Items) → has_newline (items_text later ds) ≡ false
  items-line later no_items = refl
  items-line later (item d ds) =
      has_newline-append (comma_if later) (compact_text d ++ items_text true ds) (comma-line later)
      (has_newline-append (compact_text d) (items_text true ds) (compact-line d) (items-line true ds))

  members-line : (later : Bool) (ms : Members) → has_newline (members_text later ms) ≡ false
  members-line later no_members = refl
  members-line later (member k d ms) =
      has_newline-append (comma_if later) (quoted k ++ 58 ∷ (compact_text d ++ members_text true ms)) (comma-line later)
      (has_newline-append (quoted k) (58 ∷ (compact_text d ++ members_text true ms)) (quoted-line k)
      (has_newline-append (compact_text d) (members_text true ms) (compact-line d) (members-line true ms)))
