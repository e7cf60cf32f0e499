-- Lines that are ended, one after the other, and the lines with bytes among them.
use Rattle.std.proofs.Common.{◌≡◌, ℕ, suc, ◌+◌, ◌-◌, ◌≤◌, ◌==◌, ◌||◌, List, [], ◌∷◌, ◌++◌, length, take, Bool, true, false, cond, refl, sym, ap, ◌∙◌, arith, append_assoc, append-nil, length-append}
use Rattle.std.specs.List.{AllByRecursion, flat_map}
use Rattle.std.proofs.lemmas.Bool.{eqb-true}
use Rattle.std.proofs.lemmas.List.{drop_at, take_at, flat_map_more}
use Rattle.aud_base.specs.Lists.{between}
use Rattle.aud_reader.specs.Lines.{has_newline, line_pieces, onto_first}
use Rattle.aud_reader.proofs.LinesLemmas.{pieces_of-line}
use Rattle.aud_parts.specs.TapRuns.{line_with_bytes, lines_with_bytes}
use Rattle.aud_parts.specs.IndexSoFar.{all_ended, byte_count, line_count}

-- no newline is in any of the lines
abbrev pub AreWhole : List (List ℕ) → Type 0
AreWhole lines = AllByRecursion (λ line. has_newline line ≡ false) lines

pub whole-push : (lines : List (List ℕ)) (line : List ℕ) → AreWhole lines → has_newline line ≡ false → AreWhole (lines ++ line ∷ [])
whole-push [] line whole own = (own, tt)
whole-push (l ∷ ls) line whole own = (whole.0, whole-push ls line whole.1 own)

pub all_ended-push : (lines : List (List ℕ)) (line : List ℕ) → all_ended (lines ++ line ∷ []) ≡ all_ended lines ++ (line ++ 10 ∷ [])
all_ended-push lines line = sym (flat_map_more (λ l. l ++ 10 ∷ []) [] lines line)

ended-line : (line rest more : List ℕ) → ((line ++ 10 ∷ []) ++ rest) ++ more ≡ line ++ 10 ∷ (rest ++ more)
ended-line line rest more = append_assoc (line ++ 10 ∷ []) rest more ∙ append_assoc line (10 ∷ []) (rest ++ more)

-- the lines of ended lines, and of what follows them
pub pieces-ended : (lines : List (List ℕ)) (more : List ℕ) → AreWhole lines → line_pieces (all_ended lines ++ more) ≡ lines ++ line_pieces more
pieces-ended [] more whole = refl
pieces-ended (line ∷ lines) more whole =
    ap line_pieces (ended-line line (all_ended lines) more)
    ∙ pieces_of-line line (all_ended lines ++ more) whole.0
    ∙ ap (λ ls. line ∷ ls) (pieces-ended lines more whole.1)

-- a text, cut into the lines that are ended and what follows them
pub record Cut (text : List ℕ) : Type 0 where
  pub lines : List (List ℕ)
  pub last : List ℕ
  pub is : text ≡ all_ended lines ++ last
  pub whole : AreWhole lines
  pub unended : has_newline last ≡ false

cut-more : (b : ℕ) (text : List ℕ) (lines : List (List ℕ)) (last : List ℕ) → text ≡ all_ended lines ++ last → AreWhole lines → has_newline last ≡ false → (b == 10) ≡ false → Cut (b ∷ text)
cut-more b text [] last is whole unended e = record { lines = []; last = b ∷ last; is = ap (λ l. b ∷ l) is; whole = tt; unended = ap (λ t. t || has_newline last) e ∙ unended }
cut-more b text (line ∷ lines) last is whole unended e =
    record { lines = (b ∷ line) ∷ lines; last = last; is = ap (λ l. b ∷ l) is; whole = (ap (λ t. t || has_newline line) e ∙ whole.0, whole.1); unended = unended }

pub cut-text : (text : List ℕ) → Cut text
cut-text [] = record { lines = []; last = []; is = refl; whole = tt; unended = refl }
cut-text (b ∷ text) = go (b == 10) refl (cut-text text)
  where
    go : (t : Bool) → (b == 10) ≡ t → Cut text → Cut (b ∷ text)
    go true e c =
        record { lines = [] ∷ c.lines; last = c.last; is = ap (λ x. x ∷ text) (eqb-true b 10 e) ∙ ap (λ l. 10 ∷ l) c.is; whole = (refl, c.whole); unended = c.unended }
    go false e c = cut-more b text c.lines c.last c.is c.whole c.unended e

-- what stands in the middle
pub between-middle : (a p c : List ℕ) (from to : ℕ) → from ≡ length a → to ≡ length a + length p → between (a ++ (p ++ c)) from to ≡ p
between-middle a p c from to begins ends =
    ap (take (to - from)) (drop_at a (p ++ c) from (sym begins)) ∙ take_at p c (to - from) (omega (arith, begins, ends))

-- ---- the lines that have bytes

pub lines-append : (n : ℕ) (xs ys : List (List ℕ)) → lines_with_bytes n (xs ++ ys) ≡ lines_with_bytes n xs ++ lines_with_bytes (n + length xs) ys
lines-append n [] ys = let e : n ≡ n + 0 = omega arith in ap (λ k. lines_with_bytes k ys) e
lines-append n (x ∷ xs) ys =
    let e : n + 1 + length xs ≡ n + suc (length xs) = omega arith in
    ap (λ ls. line_with_bytes n x ++ ls) (lines-append (n + 1) xs ys)
    ∙ sym (append_assoc (line_with_bytes n x) (lines_with_bytes (n + 1) xs) (lines_with_bytes (n + 1 + length xs) ys))
    ∙ ap (λ k. (line_with_bytes n x ++ lines_with_bytes (n + 1) xs) ++ lines_with_bytes k ys) e

-- one line
pub lines-one : (n : ℕ) (text : List ℕ) → lines_with_bytes n (text ∷ []) ≡ line_with_bytes n text
lines-one n text = append-nil (line_with_bytes n text)

-- ---- how many there are

-- no more than bytes
pub pieces-few : (text : List ℕ) → length (line_pieces text) ≤ length text
pieces-few [] = omega arith
pieces-few (b ∷ text) =
    let rest = pieces-few text in
    elim (b == 10) as (λ t. length (cond t ([] ∷ line_pieces text) (onto_first b (line_pieces text))) ≤ suc (length text)) [
      | true ↦ omega (arith, rest)
      | false ↦ first b (line_pieces text) (length text) rest
    ]
  where
    first : (b : ℕ) (pieces : List (List ℕ)) (n : ℕ) → length pieces ≤ n → length (onto_first b pieces) ≤ suc n
    first b [] n few = omega (arith, few)
    first b (l ∷ ls) n few = omega (arith, few)

pub lines-few : (lines : List (List ℕ)) → length lines ≤ length (all_ended lines)
lines-few [] = omega arith
lines-few (line ∷ lines) =
    let rest = lines-few lines in
    let e = length-append (line ++ 10 ∷ []) (all_ended lines) in
    let f = length-append line (10 ∷ []) in
    omega (arith, rest, e, f)

pub count-push : (files : List (List ℕ)) (bytes : List ℕ) → line_count (files ++ bytes ∷ []) ≡ line_count files + length (line_pieces bytes)
count-push files bytes = ap length (sym (flat_map_more line_pieces [] files bytes)) ∙ length-append (flat_map line_pieces files) (line_pieces bytes)

pub bytes-push : (files : List (List ℕ)) (bytes : List ℕ) → byte_count (files ++ bytes ∷ []) ≡ byte_count files + (length bytes + 1)
bytes-push [] bytes = omega arith
bytes-push (f ∷ files) bytes = let rest = bytes-push files bytes in omega (arith, rest)

pub count-few : (files : List (List ℕ)) → line_count files + length files ≤ byte_count files
count-few [] = omega arith
count-few (f ∷ files) =
    let rest = count-few files in
    let own = pieces-few f in
    let e = length-append (line_pieces f) (flat_map line_pieces files) in
    omega (arith, rest, own, e)
