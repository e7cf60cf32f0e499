-- No two names are printed alike.
use Rattle.std.proofs.Common.{◌≡◌, ℕ, true, false, cond, eqb, List, [], ◌∷◌, ◌++◌, get_or, drop, flat_map, chars, encode_utf8, encode_utf8_all, IsUtf8, refl, sym, ap, ◌∙◌, append_assoc, append-nil, inl, inr, arith}
use Rattle.std.specs.Str.{all_scalars as scalars}
use Rattle.std.proofs.lemmas.Bool.{and_parts, and_from, cases_Bool}
use Rattle.std.proofs.lemmas.Bool.Decides.{nat_tests}
use Rattle.std.proofs.lemmas.Str.{encode_ascii, encodes-append, encodes_same, encodes-chars, scalars-chars}
use Rattle.aud_explanation.specs.Named.{NamesApart, in_quotes, is_of_plain, is_plain_name, quoted, whole_name, whole_of}
use Rattle.aud_explanation.specs.Printed.{printed}
use Rattle.aud_explanation.proofs.Apart.{begun, printed_apart}

-- ---- between quotes, as characters

abbrev twice : ℕ → List ℕ
twice c = cond (eqb c 34) (34 ∷ 34 ∷ []) (c ∷ [])

abbrev in_both : List ℕ → List ℕ
in_both cs = 34 ∷ (flat_map twice cs ++ 34 ∷ [])

one_quote : encode_utf8 34 ≡ 34 ∷ []
one_quote = encode_ascii 34 (omega arith)

-- one character
one_encodes : (c : ℕ) → in_quotes c ≡ encode_utf8_all (twice c)
one_encodes c = elim (cases_Bool (eqb c 34)) [
  | inl quote ↦ rw (quote, one_quote) refl
  | inr other ↦ rw other (sym (append-nil (encode_utf8 c)))
]

-- all of them
each_encodes : (cs : List ℕ) → flat_map in_quotes cs ≡ encode_utf8_all (flat_map twice cs)
each_encodes [] = refl
each_encodes (c ∷ cs) =
    ap (λ b. b ++ flat_map in_quotes cs) (one_encodes c)
    ∙ ap (λ b. encode_utf8_all (twice c) ++ b) (each_encodes cs)
    ∙ sym (encodes-append (twice c) (flat_map twice cs))

quoted_encodes : (cs : List ℕ) → quoted cs ≡ encode_utf8_all (in_both cs)
quoted_encodes cs =
    let all : List ℕ = encode_utf8_all (flat_map twice cs) in
    ap (λ b. 34 ∷ (b ++ 34 ∷ [])) (each_encodes cs)
    ∙ ap (λ q. q ++ (all ++ q)) (sym one_quote)
    ∙ ap (λ q. encode_utf8 34 ++ (all ++ q)) (sym (append-nil (encode_utf8 34)))
    ∙ ap (λ b. encode_utf8 34 ++ b) (sym (encodes-append (flat_map twice cs) (34 ∷ [])))

-- ---- they are texts

one_scalar : (c : ℕ) (cs rest : List ℕ) → scalars (c ∷ cs) ≡ true → scalars rest ≡ true → scalars (twice c ++ rest) ≡ true
one_scalar c cs rest all more = elim (cases_Bool (eqb c 34)) [
  | inl quote ↦ rw quote more
  | inr other ↦ rw other (and_from _ _ (and_parts _ _ all).0 more)
]

each_scalar : (cs rest : List ℕ) → scalars cs ≡ true → scalars rest ≡ true → scalars (flat_map twice cs ++ rest) ≡ true
each_scalar [] rest all more = more
each_scalar (c ∷ cs) rest all more =
    ap scalars (append_assoc (twice c) (flat_map twice cs) rest)
    ∙ one_scalar c cs (flat_map twice cs ++ rest) all (each_scalar cs rest (and_parts _ _ all).1 more)

quoted_utf8 : (a : List ℕ) → IsUtf8 a → IsUtf8 (quoted (chars a))
quoted_utf8 a utf8 = (in_both (chars a), (each_scalar (chars a) (34 ∷ []) (scalars-chars a utf8) refl, sym (quoted_encodes (chars a))))

-- ---- the characters of names that stand alike

differ : (m n : ℕ) → eqb m n ≡ false → m ≡ n → ⊥
differ m n other e = grind (arith, nat_tests)

same_nat : (m n : ℕ) → eqb m n ≡ true → m ≡ n
same_nat m n is = grind (arith, nat_tests)

-- a quote that ends is no double one
one_is_two : (rest : List ℕ) → 34 ∷ [] ≡ 34 ∷ 34 ∷ rest → ⊥
one_is_two rest e = begun 34 rest (sym (ap (λ x. drop 1 x) e))

-- the first characters between quotes
abbrev after : List ℕ → List ℕ
after cs = flat_map twice cs ++ 34 ∷ []

first_twice : (c d : ℕ) (r t : List ℕ) → twice c ++ r ≡ twice d ++ t → (c ≡ d) × (r ≡ t)
first_twice c d r t e = elim (cases_Bool (eqb c 34)) [
  | inl quote ↦ elim (cases_Bool (eqb d 34)) [
    | inl also ↦ (same_nat c 34 quote ∙ sym (same_nat d 34 also), ap (λ x. drop 2 x) (rw (quote, also) at e))
    | inr other ↦ absurd (differ d 34 other (sym (ap (λ x. get_or x 0 0) (rw (quote, other) at e))))
  ]
  | inr plain ↦ elim (cases_Bool (eqb d 34)) [
    | inl also ↦ absurd (differ c 34 plain (ap (λ x. get_or x 0 0) (rw (plain, also) at e)))
    | inr other ↦ (ap (λ x. get_or x 0 0) (rw (plain, other) at e), ap (λ x. drop 1 x) (rw (plain, other) at e))
  ]
]

not_end : (d : ℕ) (t : List ℕ) → 34 ∷ [] ≡ twice d ++ t → ⊥
not_end d t e = elim (cases_Bool (eqb d 34)) [
  | inl quote ↦ one_is_two t (rw quote at e)
  | inr other ↦ differ d 34 other (sym (ap (λ x. get_or x 0 0) (rw other at e)))
]

ends_same : (a b : List ℕ) → after a ≡ after b → a ≡ b
ends_same [] [] e = refl
ends_same [] (d ∷ ds) e = absurd (not_end d (after ds) (e ∙ append_assoc (twice d) (flat_map twice ds) (34 ∷ [])))
ends_same (c ∷ cs) [] e = absurd (not_end c (after cs) (sym e ∙ append_assoc (twice c) (flat_map twice cs) (34 ∷ [])))
ends_same (c ∷ cs) (d ∷ ds) e =
    let first = first_twice c d (after cs) (after ds) (sym (append_assoc (twice c) (flat_map twice cs) (34 ∷ [])) ∙ e ∙ append_assoc (twice d) (flat_map twice ds) (34 ∷ [])) in
    ap (λ x. x ∷ cs) first.0 ∙ ap (λ x. d ∷ x) (ends_same cs ds first.1)

-- a plain name does not begin with a quote
not_quote : (cs r : List ℕ) → is_plain_name cs ≡ true → cs ≡ 34 ∷ r → ⊥
not_quote [] r plain e = cc
not_quote (c ∷ cs) r plain e =
    let of : is_of_plain c ≡ true = (and_parts _ _ (and_parts _ _ plain).1).0 in
    let is : c ≡ 34 = ap (λ x. get_or x 0 0) e in
    let no : false ≡ true = ap is_of_plain (sym is) ∙ of in
    cc

-- ---- names that stand alike are the same

plain_and_quoted : (a b : List ℕ) → IsUtf8 a → is_plain_name (chars a) ≡ true → a ≡ quoted (chars b) → ⊥
plain_and_quoted a b ua plain e =
    not_quote (chars a) (after (chars b)) plain (encodes_same (chars a) (in_both (chars b)) (encodes-chars a ua ∙ e ∙ quoted_encodes (chars b)))

quoted_same : (a b : List ℕ) → IsUtf8 a → IsUtf8 b → quoted (chars a) ≡ quoted (chars b) → a ≡ b
quoted_same a b ua ub e =
    let both : in_both (chars a) ≡ in_both (chars b) = encodes_same (in_both (chars a)) (in_both (chars b)) (sym (quoted_encodes (chars a)) ∙ e ∙ quoted_encodes (chars b)) in
    let same : chars a ≡ chars b = ends_same (chars a) (chars b) (ap (λ x. drop 1 x) both) in
    sym (encodes-chars a ua) ∙ ap encode_utf8_all same ∙ encodes-chars b ub

-- a name as it is, or between quotes
as_it_is : (name cs : List ℕ) → is_plain_name cs ≡ true → whole_of name cs ≡ name
as_it_is name cs plain = ap (λ b. cond b name (quoted cs)) plain

is_quoted : (name cs : List ℕ) → is_plain_name cs ≡ false → whole_of name cs ≡ quoted cs
is_quoted name cs quotes = ap (λ b. cond b name (quoted cs)) quotes

-- names that stand so and are printed alike
stands_alike : (a b x y : List ℕ) → printed (whole_name a) ≡ printed (whole_name b) → whole_name a ≡ x → whole_name b ≡ y → IsUtf8 x → IsUtf8 y → x ≡ y
stands_alike a b x y e is_x is_y ux uy = printed_apart x y ux uy (ap printed (sym is_x) ∙ e ∙ ap printed is_y)

pub names_apart : NamesApart
names_apart a b ua ub e = elim (cases_Bool (is_plain_name (chars a))) [
  | inl plain ↦ elim (cases_Bool (is_plain_name (chars b))) [
    | inl also ↦ stands_alike a b a b e (as_it_is a (chars a) plain) (as_it_is b (chars b) also) ua ub
    | inr other ↦ absurd (plain_and_quoted a b ua plain (stands_alike a b a (quoted (chars b)) e (as_it_is a (chars a) plain) (is_quoted b (chars b) other) ua (quoted_utf8 b ub)))
  ]
  | inr quotes ↦ elim (cases_Bool (is_plain_name (chars b))) [
    | inl also ↦ absurd (plain_and_quoted b a ub also (sym (stands_alike a b (quoted (chars a)) b e (is_quoted a (chars a) quotes) (as_it_is b (chars b) also) (quoted_utf8 a ua) ub)))
    | inr other ↦ quoted_same a b ua ub (stands_alike a b (quoted (chars a)) (quoted (chars b)) e (is_quoted a (chars a) quotes) (is_quoted b (chars b) other) (quoted_utf8 a ua) (quoted_utf8 b ub))
  ]
]
