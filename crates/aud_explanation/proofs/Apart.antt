-- Texts as they are printed, character by character, and that no two are printed alike.
use Rattle.std.proofs.Common.{◌≡◌, ℕ, ◌/◌, ◌%◌, ◌<◌, true, false, eqb, nat_lt, List, [], ◌∷◌, ◌++◌, length, length-append, get_or, drop, flat_map, chars, encode_utf8, encode_utf8_all, IsUtf8, refl, sym, ap, ◌∙◌, inl, inr, arith}
use Rattle.std.specs.Char.{digit_char, digit_value, is_control}
use Rattle.std.proofs.lemmas.Bool.{cases_Bool}
use Rattle.std.proofs.lemmas.Bool.Decides.{nat_tests}
use Rattle.std.proofs.lemmas.List.{nil_from_length}
use Rattle.std.proofs.lemmas.Str.{char_from_byte, chars-nil, chars_past_char, digit_value-digit_char, encode_same, encodes-chars, length-encode, len_utf8_bounds}
use Rattle.aud_explanation.specs.Printed.{PrintedApart, hex, hex_16, hex_code, is_hidden, json_printed, json_shown, printed, shown}

-- ---- one character after the other

pub printed_empty : (text : List ℕ) → length text ≡ 0 → printed text ≡ []
unfolding printed
printed_empty text none = rw (ap chars (nil_from_length text none) ∙ chars-nil) refl

pub printed_step : (text rest : List ℕ) (c : ℕ) → IsUtf8 text → text ≡ encode_utf8 c ++ rest → printed text ≡ shown c ++ printed rest
unfolding printed
printed_step text rest c utf8 parts = rw (chars_past_char text rest c utf8 parts) refl

-- the same of JSON

pub json_empty : (text : List ℕ) → length text ≡ 0 → json_printed text ≡ []
unfolding json_printed
json_empty text none = rw (ap chars (nil_from_length text none) ∙ chars-nil) refl

pub json_step : (text rest : List ℕ) (c : ℕ) → IsUtf8 text → text ≡ encode_utf8 c ++ rest → json_printed text ≡ json_shown c ++ json_printed rest
unfolding json_printed
json_step text rest c utf8 parts = rw (chars_past_char text rest c utf8 parts) refl

-- ---- the four ways in which a character is printed

data Way (c : ℕ) : Type 0 where
  doubled : c ≡ 92 → shown c ≡ 92 ∷ 92 ∷ [] → Way c
  byte : c < 256 → shown c ≡ 92 ∷ 120 ∷ hex c → Way c
  coded : c < 1114112 → shown c ≡ 92 ∷ 117 ∷ 123 ∷ (hex_code c ++ 125 ∷ []) → Way c
  plain : (c ≡ 92 → ⊥) → shown c ≡ encode_utf8 c → Way c

-- a control character is a byte
pub control_small : (c : ℕ) → is_control c ≡ true → c < 256
control_small c is = grind (arith, nat_tests)

-- a hidden character has a code of less than 2^20
pub hidden_small : (c : ℕ) → is_hidden c ≡ true → c < 1114112
hidden_small c is = grind (arith, nat_tests)

way_of : (c : ℕ) → Way c
way_of c = elim (cases_Bool (eqb c 92)) [
  | inl same ↦ doubled (grind (arith, nat_tests)) (rw same refl)
  | inr other ↦ elim (cases_Bool (is_control c)) [
    | inl control ↦ byte (control_small c control) (rw (other, control) refl)
    | inr seen ↦ elim (cases_Bool (is_hidden c)) [
      | inl hides ↦ coded (hidden_small c hides) (rw (other, seen, hides) refl)
      | inr stands ↦ plain (grind (arith, nat_tests)) (rw (other, seen, stands) refl)
    ]
  ]
]

-- ---- the characters of texts that are printed alike

digit_same : (m n : ℕ) → m < 16 → n < 16 → digit_char m ≡ digit_char n → m ≡ n
digit_same m n hm hn e = sym (digit_value-digit_char m (omega (arith, hm))) ∙ ap digit_value e ∙ digit_value-digit_char n (omega (arith, hn))

hex_same : (a b : ℕ) (r t : List ℕ) → a < 256 → b < 256 → hex a ++ r ≡ hex b ++ t → (a ≡ b) × (r ≡ t)
hex_same a b r t ha hb e =
    let high : digit_char (a / 16) ≡ digit_char (b / 16) = ap (λ x. get_or x 0 0) e in
    let low : digit_char (a % 16) ≡ digit_char (b % 16) = ap (λ x. get_or x 1 0) e in
    let h : a / 16 ≡ b / 16 = digit_same (a / 16) (b / 16) (omega arith) (omega arith) high in
    let l : a % 16 ≡ b % 16 = digit_same (a % 16) (b % 16) (omega arith) (omega arith) low in
    (omega (arith, h, l), ap (λ x. drop 2 x) e)

-- a character that stands as it is does not begin as an escape does
not_escaped : (c : ℕ) (r : List ℕ) → (c ≡ 92 → ⊥) → get_or (encode_utf8 c ++ r) 0 0 ≡ 92 → ⊥
not_escaped c r other is =
    let some : 0 < length (encode_utf8 c ++ r) = omega (arith, length-append (encode_utf8 c) r, length-encode c, (len_utf8_bounds c).0) in
    other (char_from_byte (encode_utf8 c ++ r) r c refl (omega (arith, is)) some ∙ is)

-- two escapes of which the second bytes differ are not the same
differ : (m n : ℕ) → eqb m n ≡ false → m ≡ n → ⊥
differ m n other e = grind (arith, nat_tests)

apart : (m n : ℕ) (x y : List ℕ) → eqb m n ≡ false → 92 ∷ m ∷ x ≡ 92 ∷ n ∷ y → ⊥
apart m n x y other e = differ m n other (ap (λ b. get_or b 1 0) e)

-- the first characters of what is printed alike are the same, and what is left is alike
abbrev First : ℕ → ℕ → Type 0
First c d = (r t : List ℕ) → shown c ++ r ≡ shown d ++ t → (c ≡ d) × (r ≡ t)

first_doubled : (c d : ℕ) → c ≡ 92 → shown c ≡ 92 ∷ 92 ∷ [] → First c d
first_doubled c d is way r t e = elim (way_of d) [
  | doubled other by ↦ (is ∙ sym other, ap (λ b. drop 2 b) (rw (way, by) at e))
  | byte small by ↦ absurd (apart 92 120 r (hex d ++ t) refl (rw (way, by) at e))
  | coded small by ↦ absurd (apart 92 117 r _ refl (rw (way, by) at e))
  | plain other by ↦ absurd (not_escaped d t other (sym (ap (λ b. get_or b 0 0) (rw (way, by) at e))))
]

first_byte : (c d : ℕ) → c < 256 → shown c ≡ 92 ∷ 120 ∷ hex c → First c d
first_byte c d small way r t e = elim (way_of d) [
  | doubled other by ↦ absurd (apart 120 92 (hex c ++ r) t refl (rw (way, by) at e))
  | byte less by ↦ hex_same c d r t small less (ap (λ b. drop 2 b) (rw (way, by) at e))
  | coded less by ↦ absurd (apart 120 117 (hex c ++ r) _ refl (rw (way, by) at e))
  | plain other by ↦ absurd (not_escaped d t other (sym (ap (λ b. get_or b 0 0) (rw (way, by) at e))))
]

-- four digits
hex_16_same : (a b : ℕ) (r t : List ℕ) → a < 65536 → b < 65536 → hex_16 a ++ r ≡ hex_16 b ++ t → (a ≡ b) × (r ≡ t)
hex_16_same a b r t ha hb e =
    let high = hex_same (a / 256) (b / 256) (hex (a % 256) ++ r) (hex (b % 256) ++ t) (omega (arith, ha)) (omega (arith, hb)) e in
    let low = hex_same (a % 256) (b % 256) r t (omega arith) (omega arith) high.1 in
    (omega (arith, high.0, low.0), low.1)

-- no digit is a brace
no_brace : (n : ℕ) → n < 16 → 125 ≡ digit_char n → ⊥
no_brace n small e =
    let v : n ≡ 36 = sym (digit_value-digit_char n (omega (arith, small))) ∙ ap digit_value (sym e) in
    omega (arith, v, small)

-- four digits and a brace are not the front of six
not_longer : (c d : ℕ) (r t : List ℕ) → hex_16 c ++ 125 ∷ r ≡ hex (d / 65536) ++ hex_16 (d % 65536) ++ 125 ∷ t → ⊥
not_longer c d r t e = no_brace (d % 65536 % 256 / 16) (omega arith) (ap (λ x. get_or x 4 0) e)

-- the escapes of two hidden characters
same_code : (c d : ℕ) (r t : List ℕ) → c < 1114112 → d < 1114112
    → (hex_code c ++ 125 ∷ []) ++ r ≡ (hex_code d ++ 125 ∷ []) ++ t → (c ≡ d) × (r ≡ t)
same_code c d r t hc hd e = elim (cases_Bool (nat_lt c 65536)) [
  | inl short ↦ elim (cases_Bool (nat_lt d 65536)) [
    | inl less ↦
        let both = hex_16_same c d (125 ∷ r) (125 ∷ t) (grind (arith, nat_tests)) (grind (arith, nat_tests)) (rw (short, less) at e) in
        (both.0, ap (λ b. drop 1 b) both.1)
    | inr more ↦ absurd (not_longer c d r t (rw (short, more) at e))
  ]
  | inr long ↦ elim (cases_Bool (nat_lt d 65536)) [
    | inl less ↦ absurd (not_longer d c t r (sym (rw (long, less) at e)))
    | inr more ↦
        let high = hex_same (c / 65536) (d / 65536) (hex_16 (c % 65536) ++ 125 ∷ r) (hex_16 (d % 65536) ++ 125 ∷ t) (omega (arith, hc)) (omega (arith, hd)) (rw (long, more) at e) in
        let low = hex_16_same (c % 65536) (d % 65536) (125 ∷ r) (125 ∷ t) (omega arith) (omega arith) high.1 in
        (omega (arith, high.0, low.0), ap (λ b. drop 1 b) low.1)
  ]
]

first_coded : (c d : ℕ) → c < 1114112 → shown c ≡ 92 ∷ 117 ∷ 123 ∷ (hex_code c ++ 125 ∷ []) → First c d
first_coded c d small way r t e = elim (way_of d) [
  | doubled other by ↦ absurd (apart 117 92 _ t refl (rw (way, by) at e))
  | byte less by ↦ absurd (apart 117 120 _ (hex d ++ t) refl (rw (way, by) at e))
  | coded less by ↦ same_code c d r t small less (ap (λ b. drop 3 b) (rw (way, by) at e))
  | plain other by ↦ absurd (not_escaped d t other (sym (ap (λ b. get_or b 0 0) (rw (way, by) at e))))
]

first_plain : (c d : ℕ) → (c ≡ 92 → ⊥) → shown c ≡ encode_utf8 c → First c d
first_plain c d own way r t e = elim (way_of d) [
  | doubled other by ↦ absurd (not_escaped c r own (ap (λ b. get_or b 0 0) (rw (way, by) at e)))
  | byte less by ↦ absurd (not_escaped c r own (ap (λ b. get_or b 0 0) (rw (way, by) at e)))
  | coded less by ↦ absurd (not_escaped c r own (ap (λ b. get_or b 0 0) (rw (way, by) at e)))
  | plain other by ↦ encode_same c d r t (rw (way, by) at e)
]

first_same : (c d : ℕ) → First c d
first_same c d = elim (way_of c) [
  | doubled is way ↦ first_doubled c d is way
  | byte small way ↦ first_byte c d small way
  | coded small way ↦ first_coded c d small way
  | plain other way ↦ first_plain c d other way
]

-- what begins with a byte is not empty
pub begun : (m : ℕ) (x : List ℕ) → m ∷ x ≡ [] → ⊥
begun m x e = cc

-- something stands for each character
shown_some : (c : ℕ) (r : List ℕ) → shown c ++ r ≡ [] → ⊥
shown_some c r e = elim (way_of c) [
  | doubled is way ↦ begun 92 _ (rw way at e)
  | byte small way ↦ begun 92 _ (rw way at e)
  | coded small way ↦ begun 92 _ (rw way at e)
  | plain other way ↦
      let none : length (encode_utf8 c ++ r) ≡ 0 = ap length (rw way at e) in
      omega (arith, none, length-append (encode_utf8 c) r, length-encode c, (len_utf8_bounds c).0)
]

chars_same : (cs ds : List ℕ) → flat_map shown cs ≡ flat_map shown ds → cs ≡ ds
chars_same [] [] e = refl
chars_same [] (d ∷ ds) e = absurd (shown_some d (flat_map shown ds) (sym e))
chars_same (c ∷ cs) [] e = absurd (shown_some c (flat_map shown cs) e)
chars_same (c ∷ cs) (d ∷ ds) e =
    let first = first_same c d (flat_map shown cs) (flat_map shown ds) e in
    ap (λ x. x ∷ cs) first.0 ∙ ap (λ x. d ∷ x) (chars_same cs ds first.1)

pub printed_apart : PrintedApart
unfolding printed
printed_apart a b ua ub e = sym (encodes-chars a ua) ∙ ap encode_utf8_all (chars_same (chars a) (chars b) e) ∙ encodes-chars b ub
