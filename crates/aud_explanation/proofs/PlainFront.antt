-- Plain characters, laid out.
use Rattle.std.proofs.Common.{◌≡◌, ℕ, ◌+◌, ◌<◌, ◌≤◌, zero, suc, Bool, true, false, not, cond, eqb, ◌||◌, List, [], ◌∷◌, ◌++◌, length, take, drop, refl, sym, ap, ◌∙◌, append_assoc, take-append-drop, take-take, arith}
use Rattle.std.specs.Char.{is_control}
use Rattle.std.specs.List.{list_all}
use Rattle.std.specs.Str.{chars, IsUtf8, IsAscii, IsCharBoundary}
use Rattle.std.proofs.lemmas.Str.{encode_ascii, chars-nil, chars-append, chars-IsAscii, IsUtf8-from_ascii, IsUtf8-drop, IsCharBoundary-from_take}
use Rattle.std.proofs.lemmas.Bool.{and_parts, or_right}
use Rattle.std.proofs.lemmas.Bool.Decides.{nat_tests}
use Rattle.std.proofs.lemmas.List.Folds.{list_all-append}
use Rattle.aud_explanation.specs.Page.{columns, fits, word_fits, ends_line, laid, next_line}
use Rattle.aud_explanation.specs.Private.Front.{is_plain, ends_word, stays_together}
use Rattle.aud_explanation.specs.Printed.{is_hidden, shown}

-- ---- a plain character

-- it is one byte, takes one column and is shown as itself
plain-small : (c : ℕ) → is_plain c ≡ true → c < 128
plain-small c plain = grind (arith, nat_tests)

not_escape : (c : ℕ) → is_plain c ≡ true → eqb c 92 ≡ false
not_escape c plain = grind (arith, nat_tests)

not_control : (c : ℕ) → is_plain c ≡ true → is_control c ≡ false
not_control c plain = grind (arith, nat_tests)

not_hidden : (c : ℕ) → is_plain c ≡ true → is_hidden c ≡ false
not_hidden c plain = grind (arith, nat_tests)

plain-columns : (c : ℕ) → is_plain c ≡ true → columns c ≡ 1
plain-columns c plain = rw (not_escape c plain, not_control c plain, not_hidden c plain) refl

plain-shown : (c : ℕ) → is_plain c ≡ true → shown c ≡ c ∷ []
plain-shown c plain = rw (not_escape c plain, not_control c plain, not_hidden c plain) (encode_ascii c (plain-small c plain))

-- ---- several of them

-- the first, and the others
first-plain : (c : ℕ) (w : List ℕ) → list_all is_plain (c ∷ w) ≡ true → is_plain c ≡ true
first-plain c w plain = (and_parts _ _ plain).0

others-plain : (c : ℕ) (w : List ℕ) → list_all is_plain (c ∷ w) ≡ true → list_all is_plain w ≡ true
others-plain c w plain = (and_parts _ _ plain).1

-- they are ASCII
plain-ascii : (w : List ℕ) → list_all is_plain w ≡ true → IsAscii w
plain-ascii [] plain i = omega arith
plain-ascii (c ∷ w) plain zero = plain-small c (first-plain c w plain)
plain-ascii (c ∷ w) plain (suc i) = plain-ascii w (others-plain c w plain) i

-- it stands within the line where a column is left
plain-fits : (column c : ℕ) → is_plain c ≡ true → column + 1 ≤ 100 → fits column c ≡ true
plain-fits column c plain room = let e = plain-columns c plain in grind (arith, nat_tests)

-- one plain character more, at which no line ends
laid_one : (column c : ℕ) (cs : List ℕ) → is_plain c ≡ true → column + 1 ≤ 100 → ends_line column c cs ≡ false → laid column (c ∷ cs) ≡ c ∷ laid (column + 1) cs
laid_one column c cs plain room goes_on =
    let f = plain-fits column c plain room in
    ap (λ b. cond b next_line (cond (fits column c) (shown c) (next_line ++ shown c)) ++ laid (cond b 8 (cond (fits column c) (column + columns c) (8 + columns c))) cs) goes_on
    ∙ ap (λ b. cond b (shown c) (next_line ++ shown c) ++ laid (cond b (column + columns c) (8 + columns c)) cs) f
    ∙ ap (λ n. shown c ++ laid (column + n) cs) (plain-columns c plain)
    ∙ ap (λ l. l ++ laid (column + 1) cs) (plain-shown c plain)

-- a word of plain characters fits
word_fits-plain : (column : ℕ) (w cs : List ℕ) → list_all is_plain w ≡ true → column + length w ≤ 100 → ends_word cs ≡ true → word_fits column (w ++ cs) ≡ true
word_fits-plain column [] [] plain room ends = refl
word_fits-plain column [] (c ∷ cs) plain room ends = rw ends refl
word_fits-plain column (c ∷ w) cs plain room ends =
    let f : fits column c ≡ true = plain-fits column c (first-plain c w plain) (omega arith) in
    let more : word_fits (column + 1) (w ++ cs) ≡ true = word_fits-plain (column + 1) w cs (others-plain c w plain) (omega arith) ends in
    ap (λ b. cond (eqb c 32) true (cond b (word_fits (column + columns c) (w ++ cs)) false)) f
    ∙ ap (λ n. cond (eqb c 32) true (word_fits (column + n) (w ++ cs))) (plain-columns c (first-plain c w plain))
    ∙ ap (λ b. cond (eqb c 32) true b) more
    ∙ cond_same (eqb c 32)
  where
    cond_same : (b : Bool) → cond b true true ≡ true
    cond_same true = refl
    cond_same false = refl

-- no line ends before a word that fits
goes_on-word : (column c : ℕ) (cs : List ℕ) → word_fits (column + 1) cs ≡ true → ends_line column c cs ≡ false
goes_on-word column c cs room = ap (λ b. cond (eqb c 32) (not b) false) room ∙ cond_same (eqb c 32)
  where
    cond_same : (b : Bool) → cond b false false ≡ false
    cond_same true = refl
    cond_same false = refl

-- plain characters after which a word ends
laid_words : (column : ℕ) (w cs : List ℕ) → list_all is_plain w ≡ true → column + length w ≤ 100 → ends_word cs ≡ true → laid column (w ++ cs) ≡ w ++ laid (column + length w) cs
laid_words column [] cs plain room ends = ap (λ n. laid n cs) (let e : column ≡ column + 0 = omega arith in e)
laid_words column (c ∷ w) cs plain room ends =
    let more : word_fits (column + 1) (w ++ cs) ≡ true = word_fits-plain (column + 1) w cs (others-plain c w plain) (omega arith) ends in
    laid_one column c (w ++ cs) (first-plain c w plain) (omega arith) (goes_on-word column c (w ++ cs) more)
    ∙ ap (λ l. c ∷ l) (laid_words (column + 1) w cs (others-plain c w plain) (omega arith) ends)
    ∙ ap (λ n. c ∷ (w ++ laid n cs)) (let e : column + 1 + length w ≡ column + length (c ∷ w) = omega arith in e)

-- plain characters without a blank
laid_word : (column : ℕ) (w cs : List ℕ) → list_all is_plain w ≡ true → column + length w ≤ 100 → list_all (λ c. not (eqb c 32)) w ≡ true → laid column (w ++ cs) ≡ w ++ laid (column + length w) cs
laid_word column [] cs plain room one = ap (λ n. laid n cs) (let e : column ≡ column + 0 = omega arith in e)
laid_word column (c ∷ w) cs plain room one =
    let letter : not (eqb c 32) ≡ true = (and_parts _ _ one).0 in
    let other : eqb c 32 ≡ false = grind (arith, nat_tests) in
    laid_one column c (w ++ cs) (first-plain c w plain) (omega arith) (rw other refl)
    ∙ ap (λ l. c ∷ l) (laid_word (column + 1) w cs (others-plain c w plain) (omega arith) (and_parts _ _ one).1)
    ∙ ap (λ n. c ∷ (w ++ laid n cs)) (let e : column + 1 + length w ≡ column + length (c ∷ w) = omega arith in e)

-- plain characters that stay together
laid_together : (column : ℕ) (w cs : List ℕ) → list_all is_plain w ≡ true → column + length w ≤ 100 → stays_together w cs ≡ true → laid column (w ++ cs) ≡ w ++ laid (column + length w) cs
laid_together column w cs plain room whole = by (ends_word cs) refl
  where
    by : (b : Bool) → ends_word cs ≡ b → laid column (w ++ cs) ≡ w ++ laid (column + length w) cs
    by true e = laid_words column w cs plain room e
    by false e = laid_word column w cs plain room (ap (λ b. b || list_all (λ c. not (eqb c 32)) w) (sym e) ∙ whole)

-- a text ends a word where its bytes do
ends_word-chars : (text : List ℕ) → ends_word text ≡ true → ends_word (chars text) ≡ true
ends_word-chars [] ends = ap ends_word chars-nil
ends_word-chars (b ∷ text) ends =
    let blank : b ≡ 32 = grind (arith, nat_tests) in
    let ascii : IsAscii (b ∷ []) = plain-ascii (b ∷ []) (rw blank refl) in
    ap ends_word (chars-append (b ∷ []) text (IsUtf8-from_ascii (b ∷ []) ascii) ∙ ap (λ l. l ++ chars text) (chars-IsAscii (b ∷ []) ascii)) ∙ ends

stays_together-chars : (w text : List ℕ) → stays_together w text ≡ true → stays_together w (chars text) ≡ true
stays_together-chars w text whole = by (ends_word text) refl
  where
    by : (b : Bool) → ends_word text ≡ b → stays_together w (chars text) ≡ true
    by true e = ap (λ b. b || list_all (λ c. not (eqb c 32)) w) (ends_word-chars text e)
    by false e = or_right (ends_word (chars text)) _ (ap (λ b. b || list_all (λ c. not (eqb c 32)) w) (sym e) ∙ whole)

-- a plain front of a text that stays together is laid out as it is
laid-front : (column : ℕ) (w rest : List ℕ) → list_all is_plain w ≡ true → column + length w ≤ 100 → stays_together w rest ≡ true
    → laid column (chars (w ++ rest)) ≡ w ++ laid (column + length w) (chars rest)
laid-front column w rest plain room whole =
    let ascii : IsAscii w = plain-ascii w plain in
    ap (laid column) (chars-append w rest (IsUtf8-from_ascii w ascii) ∙ ap (λ l. l ++ chars rest) (chars-IsAscii w ascii))
    ∙ laid_together column w (chars rest) plain room (stays_together-chars w rest whole)

-- ---- a plain front of a text

-- a text may be cut after it
pub plain-boundary : (text : List ℕ) (n : ℕ) → IsUtf8 text → n ≤ length text → list_all is_plain (take n text) ≡ true → IsCharBoundary text n
plain-boundary text n utf8 within plain = IsCharBoundary-from_take text n utf8 within (IsUtf8-from_ascii (take n text) (plain-ascii (take n text) plain))

-- what follows it is a text
pub after-plain : (text : List ℕ) (n : ℕ) → IsUtf8 text → n ≤ length text → list_all is_plain (take n text) ≡ true → IsUtf8 (drop n text)
after-plain text n utf8 within plain = IsUtf8-drop text n utf8 (plain-boundary text n utf8 within plain)

-- so is a shorter one
pub plain-shorter : (bytes : List ℕ) (m n : ℕ) → m ≤ n → list_all is_plain (take n bytes) ≡ true → list_all is_plain (take m bytes) ≡ true
plain-shorter bytes m n shorter plain =
    let parts = take-append-drop m (take n bytes) in
    let e = sym (list_all-append is_plain (take m (take n bytes)) (drop m (take n bytes))) ∙ ap (list_all is_plain) parts ∙ plain in
    sym (ap (list_all is_plain) (take-take m n bytes shorter)) ∙ (and_parts _ _ e).0

-- a text that is split after such a front
pub laid-split : (column : ℕ) (text front rest : List ℕ) (n : ℕ) → front ≡ take n text → rest ≡ drop n text → column + length front ≤ 100 → list_all is_plain (take n text) ≡ true → stays_together (take n text) (drop n text) ≡ true
    → laid column (chars text) ≡ front ++ laid (column + length front) (chars rest)
laid-split column text front rest n is after room plain whole =
    let f : list_all is_plain front ≡ true = rw is plain in
    let w : stays_together front rest ≡ true = rw (is, after) whole in
    let e : text ≡ front ++ rest = rw (is, after) (sym (take-append-drop n text)) in
    ap (λ t. laid column (chars t)) e ∙ laid-front column front rest f room w

-- such a front more
pub laid-past_front : (old out start front text rest : List ℕ) (column next : ℕ) → old ++ laid column (chars text) ≡ start → out ≡ old ++ front → laid column (chars text) ≡ front ++ laid next (chars rest) → out ++ laid next (chars rest) ≡ start
laid-past_front old out start front text rest column next before is parts =
    ap (λ b. b ++ laid next (chars rest)) is
    ∙ append_assoc old front (laid next (chars rest))
    ∙ ap (λ b. old ++ b) (sym parts)
    ∙ before
