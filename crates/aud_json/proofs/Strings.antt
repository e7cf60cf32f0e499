-- A string, byte by byte, as the lexer passes over it and as its content is read.
use Rattle.std.proofs.Common.{◌≡◌, ◌==◌, ◌||◌, zero, suc, ℕ, ◌+◌, ◌<◌, ◌≤◌, Bool, true, false, cond, List, [], ◌∷◌, ◌++◌, ◌⊎◌, inl, inr, length, take, drop, get_or, Option, Some, None, IsUtf8, refl, sym, ap, ◌∙◌, subst, arith, append_assoc}
use Rattle.std.proofs.lemmas.Bool.{cases_eq, ne_eqb, le-ltb, or_parts, not-true, eqb-false, ltb-false}
use Rattle.std.proofs.lemmas.List.{append-nil, drop_at, drop_more, drop-drop, get_or_at, length-append, take-append-drop, take_at}
use Rattle.std.proofs.lemmas.Str.{IsCharBoundary-after_ascii, IsCharBoundary-before_ascii, IsUtf8-append, IsUtf8-drop, IsUtf8-encode, IsUtf8-take, encode_ascii}
use Rattle.std.specs.Int.{from_be_bytes, w16}
use Rattle.std.specs.List.{prefix_len}
use lib.Utf8.{low_scalar}
use Rattle.json.specs.Token.{string, end_object, begin_array, end_array}
use Rattle.json.specs.Text.{content, plain, prepend, short_escape}
use Rattle.json.specs.Word.{is_operator, is_space}
use Rattle.json.specs.Run.{is_plain}
use Rattle.aud_json.specs.Private.Unescaped.{IsByte, IsCopied}
use Rattle.aud_json.specs.Private.Flat.{IsOneLetter}
use Rattle.json.specs.Lex.{Lexeme, token, comma, colon, string_token, Mode, lex, lex_byte, between, in_string, operator, space, other}

-- ---- a byte of the content

stays_inside : (o s : Bool) (x : ℕ) (r : List ℕ) (k : Mode → List Lexeme) → lex_byte in_string (cond o operator (cond s space other)) x r k ≡ k in_string
stays_inside true s x r k = refl
stays_inside false true x r k = refl
stays_inside false false x r k = refl

-- a plain byte stands for itself
content_plain : (x : ℕ) (rest : List ℕ) → (x ≡ 34 → ⊥) → (x ≡ 92 → ⊥) → 32 ≤ x → content plain (x ∷ rest) ≡ prepend (x ∷ []) (content plain rest)
unfolding content
content_plain x rest q b l = rw (ne_eqb x 34 q, ne_eqb x 92 b, le-ltb x 32 l)

-- the lexer passes over it
lex_plain : (x : ℕ) (rest : List ℕ) → (x ≡ 34 → ⊥) → (x ≡ 92 → ⊥) → lex in_string (x ∷ rest) ≡ lex in_string rest
unfolding lex
lex_plain x rest q b = rw (ne_eqb x 34 q, ne_eqb x 92 b) (stays_inside (is_operator x) (is_space x) x rest (λ m. lex m rest))

none_some : (c : ℕ) → None ≡ Some c → ⊥
none_some c e = absurd (cc)

-- a short escape stands for its byte
content_escape : (x c : ℕ) (rest : List ℕ) → short_escape x ≡ Some c → content plain (92 ∷ x ∷ rest) ≡ prepend (c ∷ []) (content plain rest)
unfolding content short_escape
content_escape x c rest e = go (cases_eq x 117)
  where
    go : (x ≡ 117) ⊎ (x ≡ 117 → ⊥) → content plain (92 ∷ x ∷ rest) ≡ prepend (c ∷ []) (content plain rest)
    go (inl same) = absurd (none_some c (sym (ap short_escape same) ∙ e))
    go (inr differs) = rw (ne_eqb x 117 differs, e)

-- the lexer passes over it
lex_escape : (x : ℕ) (rest : List ℕ) → lex in_string (92 ∷ x ∷ rest) ≡ lex in_string rest
unfolding lex
lex_escape x rest = refl

-- ---- a byte of a text in UTF-8

one_ascii : (x : ℕ) → x < 128 → IsUtf8 (x ∷ [])
one_ascii x small = subst IsUtf8 (encode_ascii x small) (IsUtf8-encode x (low_scalar x (omega arith)))

-- the texts on both sides of an ASCII byte
pub around_ascii : (before : List ℕ) (x : ℕ) (rest : List ℕ) → x < 128 → IsUtf8 (before ++ x ∷ rest) → IsUtf8 before × IsUtf8 rest
around_ascii before x rest small u =
    let n = length before in
    let all = before ++ x ∷ rest in
    let one : before ++ x ∷ rest ≡ (before ++ x ∷ []) ++ rest = sym (append_assoc before (x ∷ []) rest) in
    let long : length (before ++ x ∷ []) ≡ n + 1 = length-append before (x ∷ []) in
    let within : n < length all = omega (arith, length-append before (x ∷ rest)) in
    let ascii : get_or all n 0 < 128 = subst (λ y. y < 128) (sym (get_or_at before x rest 0 n refl)) small in (
      subst IsUtf8 (take_at before (x ∷ rest) n refl) (IsUtf8-take all n u (IsCharBoundary-before_ascii all n within ascii)),
      subst IsUtf8 (ap (drop (n + 1)) one ∙ drop_at (before ++ x ∷ []) rest (n + 1) long) (IsUtf8-drop all (n + 1) u (IsCharBoundary-after_ascii all n u within ascii)),
    )

-- the byte of a short escape in its place
pub valid_escape : (x c : ℕ) (rest before : List ℕ) → x < 128 → c < 128 → IsUtf8 (before ++ 92 ∷ x ∷ rest) → IsUtf8 (before ++ c ∷ rest)
valid_escape x c rest before x_small c_small u =
    let outer = around_ascii before 92 (x ∷ rest) (omega arith) u in
    let inner = around_ascii [] x rest x_small outer.1 in
    IsUtf8-append before (c ∷ rest) outer.0 (IsUtf8-append (c ∷ []) rest (one_ascii c c_small) inner.1)

-- ---- the same at a place of a text

-- a plain byte
pub step_plain : (d : List ℕ) (at : ℕ) → at < length d → (get_or d at 0 ≡ 34 → ⊥) → (get_or d at 0 ≡ 92 → ⊥) → 32 ≤ get_or d at 0 → IsByte d at (get_or d at 0) (at + 1)
step_plain d at within q b l =
    let x = get_or d at 0 in
    let here = drop_more d at 0 within in
    (ap (content plain) here ∙ content_plain x (drop (at + 1) d) q b l, ap (lex in_string) here ∙ lex_plain x (drop (at + 1) d) q b, λ before u. subst (λ t. IsUtf8 (before ++ t)) here u)

-- a short escape
pub step_escape : (d : List ℕ) (at c : ℕ) → at + 1 < length d → get_or d at 0 ≡ 92 → short_escape (get_or d (at + 1) 0) ≡ Some c → get_or d (at + 1) 0 < 128 → c < 128 → IsByte d at c (at + 2)
step_escape d at c within backslash e x_small c_small =
    let x = get_or d (at + 1) 0 in
    let two : at + 1 + 1 ≡ at + 2 = omega arith in
    let after : drop (at + 1) d ≡ x ∷ drop (at + 2) d = drop_more d (at + 1) 0 within ∙ ap (λ k. x ∷ drop k d) two in
    let here : drop at d ≡ 92 ∷ x ∷ drop (at + 2) d = drop_more d at 0 (omega arith) ∙ ap (λ y. y ∷ drop (at + 1) d) backslash ∙ ap (λ l. 92 ∷ l) after in
    (ap (content plain) here ∙ content_escape x c (drop (at + 2) d) e, ap (lex in_string) here ∙ lex_escape x (drop (at + 2) d), λ before u. valid_escape x c (drop (at + 2) d) before x_small c_small (subst (λ t. IsUtf8 (before ++ t)) here u))

quote_bytes : (a b n : ℕ) → a < 256 → b < 256 → n ≡ from_be_bytes w16 (a ∷ b ∷ []) → n ≡ 0x5c22 → (a ≡ 92) × (b ≡ 34)
quote_bytes a b n a_fits b_fits e is = (omega (arith, e, is), omega (arith, e, is))

-- an escaped quote, whose bytes were read as one number
pub step_quote : (d : List ℕ) (at n : ℕ) → at + 1 < length d → get_or d at 0 < 256 → get_or d (at + 1) 0 < 256 → n ≡ from_be_bytes w16 (get_or d at 0 ∷ get_or d (at + 1) 0 ∷ []) → n ≡ 0x5c22 → IsByte d at 34 (at + 2)
unfolding short_escape
step_quote d at n within first second e is =
    let both = quote_bytes (get_or d at 0) (get_or d (at + 1) 0) n first second e is in
    step_escape d at 34 within both.0 (ap short_escape both.1) (subst (λ x. x < 128) (sym both.1) (omega arith)) (omega arith)

-- ---- what was read so far

-- of a string, what was read so far and what is left
pub record Passed (text found rest : List ℕ) : Type 0 where
  pub read : content plain text ≡ prepend found (content plain rest)
  pub lexed : lex in_string text ≡ lex in_string rest
  pub valid : IsUtf8 text → IsUtf8 (found ++ rest)

prepend-nil : (r : Option (List ℕ)) → r ≡ prepend [] r
prepend-nil None = refl
prepend-nil (Some s) = refl

prepend-prepend : (a b : List ℕ) (r : Option (List ℕ)) → prepend a (prepend b r) ≡ prepend (a ++ b) r
prepend-prepend a b None = refl
prepend-prepend a b (Some s) = ap Some (sym (append_assoc a b s))

-- nothing was read
pub passed_none : (text : List ℕ) → Passed text [] text
passed_none text = record { read = prepend-nil _; lexed = refl; valid = λ u. u }

-- a byte was read after the others
pub passed_step : (text found : List ℕ) (at c next : ℕ) → Passed text found (drop at text) → IsByte text at c next → Passed text (found ++ c ∷ []) (drop next text)
passed_step text found at c next p s = record {
  read = p.read ∙ ap (prepend found) s.0 ∙ prepend-prepend found (c ∷ []) (content plain (drop next text));
  lexed = p.lexed ∙ s.1;
  valid = λ u. subst IsUtf8 (sym (append_assoc found (c ∷ []) (drop next text))) (s.2 found (p.valid u));
}

plain_parts : (x : ℕ) → is_plain x ≡ true → (x ≡ 34 → ⊥) × (x ≡ 92 → ⊥) × (32 ≤ x)
plain_parts x e =
    let none = or_parts ((x == 34) || (x == 92)) _ (not-true _ e) in
    let tests = or_parts (x == 34) _ none.0 in
    (eqb-false x 34 tests.0, eqb-false x 92 tests.1, ltb-false x 32 none.1)

one_passed : (b : Bool) (x n : ℕ) (xs : List ℕ) → is_plain x ≡ b → suc n ≤ cond b (1 + prefix_len is_plain xs) 0 → (n ≤ prefix_len is_plain xs → Passed xs (take n xs) (drop n xs)) → Passed (x ∷ xs) (x ∷ take n xs) (drop n xs)
one_passed false x n xs e le ih = absurd (omega arith)
one_passed true x n xs e le ih =
    let parts = plain_parts x e in
    let rest = ih (omega arith) in
    record {
      read = content_plain x xs parts.0 parts.1 parts.2 ∙ ap (prepend (x ∷ [])) rest.read ∙ prepend-prepend (x ∷ []) (take n xs) (content plain (drop n xs));
      lexed = lex_plain x xs parts.0 parts.1 ∙ rest.lexed;
      valid = λ u. subst (λ t. IsUtf8 (x ∷ t)) (sym (take-append-drop n xs)) u;
    }

-- plain bytes were read
pub passed_plain : (text : List ℕ) (n : ℕ) → n ≤ prefix_len is_plain text → Passed text (take n text) (drop n text)
passed_plain text zero le = passed_none text
passed_plain [] (suc n) le = absurd (omega arith)
passed_plain (x ∷ xs) (suc n) le = one_passed (is_plain x) x n xs refl le (passed_plain xs n)

-- plain bytes were read after the others
pub passed_run : (text found : List ℕ) (at n : ℕ) → Passed text found (drop at text) → n ≤ prefix_len is_plain (drop at text) → Passed text (found ++ take n (drop at text)) (drop (at + n) text)
passed_run text found at n p le =
    let more = passed_plain (drop at text) n le in
    let left : drop n (drop at text) ≡ drop (at + n) text = drop-drop n at text in
    subst (Passed text (found ++ take n (drop at text))) left (record {
      read = p.read ∙ ap (prepend found) more.read ∙ prepend-prepend found (take n (drop at text)) (content plain (drop n (drop at text)));
      lexed = p.lexed ∙ more.lexed;
      valid = λ u. subst IsUtf8 (ap (λ t. found ++ t) (sym (take-append-drop n (drop at text))) ∙ sym (append_assoc found (take n (drop at text)) (drop n (drop at text)))) (p.valid u);
    })

closed : (text found rest : List ℕ) → Passed text found (34 ∷ rest) → (content plain text ≡ Some found) × (lex in_string text ≡ lex between rest)
unfolding content lex
closed text found rest p = (p.read ∙ ap Some (append-nil found), p.lexed)

-- plain bytes were copied after the others
pub passed_copy : (text old new : List ℕ) (from to n : ℕ) → Passed text (take to old) (drop from text) → IsCopied text from old to n new → Passed text (take (to + n) new) (drop (from + n) text)
passed_copy text old new from to n p c = subst (λ f. Passed text f (drop (from + n) text)) (sym c.1) (passed_run text (take to old) from n p c.0)

-- the quote comes
pub passed_end : (text found : List ℕ) (at : ℕ) → Passed text found (drop at text) → at < length text → get_or text at 0 ≡ 34 → (content plain text ≡ Some found) × (lex in_string text ≡ lex between (drop (at + 1) text))
passed_end text found at p within quote = closed text found (drop (at + 1) text) (subst (Passed text found) (drop_more text at 0 within ∙ ap (λ x. x ∷ drop (at + 1) text) quote) p)

-- and what was found is a text
pub passed_valid : (text found : List ℕ) (at : ℕ) → Passed text found (drop at text) → at < length text → get_or text at 0 ≡ 34 → IsUtf8 text → IsUtf8 found
passed_valid text found at p within quote u =
    let here : drop at text ≡ 34 ∷ drop (at + 1) text = drop_more text at 0 within ∙ ap (λ x. x ∷ drop (at + 1) text) quote in
    (around_ascii found 34 (drop (at + 1) text) (omega arith) (subst (λ t. IsUtf8 (found ++ t)) here (p.valid u))).0

-- ---- lexemes

-- a string, whose content follows the quote
pub lex_string : (text inner s rest : List ℕ) → text ≡ 34 ∷ inner → content plain inner ≡ Some s → lex in_string inner ≡ lex between rest → lex between text ≡ token (string s) ∷ lex between rest
unfolding lex
lex_string text inner s rest e read lexed = ap (lex between) e ∙ ap (λ o. token (string_token o) ∷ lex in_string inner) read ∙ ap (λ ls. token (string s) ∷ ls) lexed

-- a colon
pub lex_colon : (text rest : List ℕ) → text ≡ 58 ∷ rest → lex between text ≡ colon ∷ lex between rest
unfolding lex
lex_colon text rest e = ap (lex between) e

-- a comma
pub lex_comma : (text rest : List ℕ) → text ≡ 44 ∷ rest → lex between text ≡ comma ∷ lex between rest
unfolding lex
lex_comma text rest e = ap (lex between) e

-- a brace at the end
pub lex_close : (text : List ℕ) → text ≡ 125 ∷ [] → lex between text ≡ token end_object ∷ []
unfolding lex
lex_close text e = ap (lex between) e

-- a bracket before items
pub lex_open_list : (text rest : List ℕ) → text ≡ 91 ∷ rest → lex between text ≡ token begin_array ∷ lex between rest
unfolding lex
lex_open_list text rest e = ap (lex between) e

-- a bracket after items
pub lex_close_list : (text rest : List ℕ) → text ≡ 93 ∷ rest → lex between text ≡ token end_array ∷ lex between rest
unfolding lex
lex_close_list text rest e = ap (lex between) e

-- ---- a key of one letter

letter_passed : (x : ℕ) (rest : List ℕ) → is_plain x ≡ true → Passed (x ∷ rest) (x ∷ []) rest
letter_passed x rest e = let parts = plain_parts x e in record { read = content_plain x rest parts.0 parts.1 parts.2; lexed = lex_plain x rest parts.0 parts.1; valid = λ u. u }

lex_letter : (x : ℕ) (rest : List ℕ) → is_plain x ≡ true → lex between (34 ∷ x ∷ 34 ∷ 58 ∷ rest) ≡ token (string (x ∷ [])) ∷ colon ∷ lex between rest
lex_letter x rest e =
    let both = closed (x ∷ 34 ∷ 58 ∷ rest) (x ∷ []) (58 ∷ rest) (letter_passed x (34 ∷ 58 ∷ rest) e) in
    lex_string (34 ∷ x ∷ 34 ∷ 58 ∷ rest) (x ∷ 34 ∷ 58 ∷ rest) (x ∷ []) (58 ∷ rest) refl both.0 both.1 ∙ ap (λ ls. token (string (x ∷ [])) ∷ ls) (lex_colon (58 ∷ rest) rest refl)

four : (d : List ℕ) → 4 ≤ length d → d ≡ get_or d 0 0 ∷ get_or d 1 0 ∷ get_or d 2 0 ∷ get_or d 3 0 ∷ drop 4 d
four [] h = absurd (omega arith)
four (a ∷ []) h = absurd (omega arith)
four (a ∷ b ∷ []) h = absurd (omega arith)
four (a ∷ b ∷ c ∷ []) h = absurd (omega arith)
four (a ∷ b ∷ c ∷ e ∷ d) h = refl

-- a key of one letter is its second byte, and is read up to the fifth
pub lex_one_letter : (d : List ℕ) → IsOneLetter d → lex between d ≡ token (string (get_or d 1 0 ∷ [])) ∷ colon ∷ lex between (drop 4 d)
lex_one_letter d k =
    let x = get_or d 1 0 in
    let rest = drop 4 d in
    ap (lex between) (four d k.long ∙ ap (λ y. y ∷ x ∷ get_or d 2 0 ∷ get_or d 3 0 ∷ rest) k.opened ∙ ap (λ y. 34 ∷ x ∷ y ∷ get_or d 3 0 ∷ rest) k.closed ∙ ap (λ y. 34 ∷ x ∷ 34 ∷ y ∷ rest) k.colon)
    ∙ lex_letter x rest k.letter
