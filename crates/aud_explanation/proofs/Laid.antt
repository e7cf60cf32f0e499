-- Lines, as far as they are laid out.
use Rattle.std.proofs.Common.{◌≡◌, ℕ, ◌+◌, ◌<◌, ◌≤◌, nat_le, true, false, cond, eqb, Option, Some, None, List, [], ◌∷◌, ◌++◌, length, get_or, drop, refl, sym, ap, ◌∙◌, append_assoc, encode_utf8, arith}
use Rattle.std.specs.Str.{chars, IsUtf8}
use Rattle.std.specs.Str.Iter.{chars_rest, chars_steps}
use Rattle.std.specs.declared.str.Chars.{Chars}
use Rattle.std.proofs.lemmas.Str.{chars-nil, chars_past_char}
use Rattle.std.proofs.lemmas.Bool.Decides.{nat_tests}
use Rattle.std.proofs.lemmas.List.{at_drop_more}
use Rattle.aud_explanation.specs.Page.{columns, fits, word_fits, laid, placed, next_column}

-- one character more
pub laid-more : (old out start text rest : List ℕ) (column next c : ℕ) → IsUtf8 text → text ≡ encode_utf8 c ++ rest
    → old ++ laid column (chars text) ≡ start → out ≡ old ++ placed column c (chars rest) → next ≡ next_column column c (chars rest) → out ++ laid next (chars rest) ≡ start
laid-more old out start text rest column next c utf8 begins before is end =
    ap (λ b. b ++ laid next (chars rest)) is
    ∙ append_assoc old (placed column c (chars rest)) (laid next (chars rest))
    ∙ ap (λ b. old ++ (placed column c (chars rest) ++ laid b (chars rest))) end
    ∙ ap (λ b. old ++ laid column b) (sym (chars_past_char text rest c utf8 begins))
    ∙ before

-- nothing is left where no character comes
pub at_end : (left next : Chars) (r : Option ℕ) → chars_steps left r next → ((x : ℕ) → r ≡ Some x → ⊥) → length (chars_rest left) ≡ 0
at_end left next None steps none = steps.0.0
at_end left next (Some x) steps none = absurd (none x refl)

-- the newline
pub laid-end : (old start text : List ℕ) (column : ℕ) → length text ≡ 0 → old ++ laid column (chars text) ≡ start → old ++ 10 ∷ [] ≡ start
laid-end old start [] column h before = ap (λ cs. old ++ laid column cs) (sym chars-nil) ∙ before
laid-end old start (x ∷ xs) column h before = absurd (omega arith)

-- one character more of a word
pub word_fits-drop : (column n c : ℕ) (cs : List ℕ) → (n < length cs) × (c ≡ get_or cs n c)
    → word_fits column (drop n cs) ≡ cond (eqb c 32) true (cond (fits column c) (word_fits (column + columns c) (drop (n + 1) cs)) false)
word_fits-drop column n c cs h =
    at_drop_more (word_fits column) cs n c h.0
    ∙ ap (λ x. cond (eqb x 32) true (cond (fits column x) (word_fits (column + columns x) (drop (n + 1) cs)) false)) (sym h.1)

-- what stands within the line is no further than the column after its last
pub within-room : (a : ℕ) → nat_le a 100 ≡ true → a ≤ 101
within-room a room = grind (arith, nat_tests)

-- a blank ends the word
pub word-blank : (column n c : ℕ) (cs : List ℕ) → (n < length cs) × (c ≡ get_or cs n c) → eqb c 32 ≡ true → word_fits column (drop n cs) ≡ true
word-blank column n c cs h blank = rw (word_fits-drop column n c cs h, blank) refl

-- a character that does not stand within the line
pub word-full : (column n c : ℕ) (cs : List ℕ) → (n < length cs) × (c ≡ get_or cs n c) → eqb c 32 ≡ false → fits column c ≡ false → word_fits column (drop n cs) ≡ false
word-full column n c cs h blank full =
    word_fits-drop column n c cs h
    ∙ ap (λ b. cond b true (cond (fits column c) (word_fits (column + columns c) (drop (n + 1) cs)) false)) blank
    ∙ ap (λ b. cond b (word_fits (column + columns c) (drop (n + 1) cs)) false) full

-- one that does
pub word-more : (column n c : ℕ) (cs : List ℕ) → (n < length cs) × (c ≡ get_or cs n c) → eqb c 32 ≡ false → fits column c ≡ true
    → word_fits column (drop n cs) ≡ word_fits (column + columns c) (drop (n + 1) cs)
word-more column n c cs h blank room =
    word_fits-drop column n c cs h
    ∙ ap (λ b. cond b true (cond (fits column c) (word_fits (column + columns c) (drop (n + 1) cs)) false)) blank
    ∙ ap (λ b. cond b (word_fits (column + columns c) (drop (n + 1) cs)) false) room
