-- What a newline, a blank and a digit do to the reading of a text.
use Rattle.std.proofs.Common.{◌≡◌, ℕ, zero, suc, ◌<◌, ◌==◌, not, List, [], ◌∷◌, ◌++◌, length, map, take, drop, Bool, true, false, cond, Option, Some, None, option_map, refl, sym, ap, ◌∙◌, arith, slice_index, inl, inr, append_assoc, flat_map}
use Rattle.std.specs.List.{list_any, list_all}
use Rattle.std.specs.Option.{option_and_then}
use Rattle.std.proofs.lemmas.Bool.{cases_Bool, and_parts, or_parts, not-true}
use Rattle.std.proofs.lemmas.Option.{some_pair_parts}
use Rattle.memchr.specs.Find.{Nowhere, Passes, is_byte}
use Rattle.aud_parts.specs.Cut.{cut_at, onto_line, whole_lines}

-- a byte stands among these
abbrev pub has_byte : ℕ → List ℕ → Bool
has_byte byte text = list_any (λ b. b == byte) text

-- ---- a cut

-- a search that finds the byte nowhere
pub cut-nowhere : (byte : ℕ) (text : List ℕ) → Nowhere (Passes (is_byte byte) text) 0 (length text) → cut_at byte text ≡ None
cut-nowhere byte [] h = refl
cut-nowhere byte (b ∷ text) h =
    elim (cases_Bool (b == byte)) [
      | inl e ↦ absurd (h 0 (omega arith) (omega arith) e)
      | inr e ↦ rw (e, cut-nowhere byte text (λ k low high. h (suc k) (omega arith) (omega arith))) refl
    ]

-- a search that finds it first at this place
pub cut-first : (byte : ℕ) (text : List ℕ) (at : ℕ) → at < length text → Nowhere (Passes (is_byte byte) text) 0 at
    → (slice_index text at == byte) ≡ true → cut_at byte text ≡ Some (take at text, drop (suc at) text)
cut-first byte [] at within before here = absurd (omega arith)
cut-first byte (b ∷ text) zero within before here = rw here refl
cut-first byte (b ∷ text) (suc at) within before here =
    elim (cases_Bool (b == byte)) [
      | inl e ↦ absurd (before 0 (omega arith) (omega arith) e)
      | inr e ↦ rw (e, cut-first byte text at (omega arith) (λ k low high. before (suc k) (omega arith) (omega arith)) here) refl
    ]

-- the first such byte ends what has none
pub cut-after : (byte : ℕ) (front rest : List ℕ) → has_byte byte front ≡ false → (byte == byte) ≡ true → cut_at byte (front ++ byte ∷ rest) ≡ Some (front, rest)
cut-after byte [] rest none itself = rw itself refl
cut-after byte (b ∷ front) rest none itself =
    let parts = or_parts (b == byte) (has_byte byte front) none in
    rw (parts.0, cut-after byte front rest parts.1 itself) refl

-- ---- lines

-- a byte in front of the first line of those that follow a line
onto-front : (b : ℕ) (front : List ℕ) (o : Option (List (List ℕ))) → option_and_then (onto_line b) (option_map (λ (ls : List (List ℕ)). front ∷ ls) o) ≡ option_map (λ (ls : List (List ℕ)). (b ∷ front) ∷ ls) o
onto-front b front None = refl
onto-front b front (Some ls) = refl

-- a newline ends the first line
pub lines-cut : (text front rest : List ℕ) → cut_at 10 text ≡ Some (front, rest) → whole_lines text ≡ option_map (λ (ls : List (List ℕ)). front ∷ ls) (whole_lines rest)
lines-cut [] front rest e = cc
lines-cut (b ∷ text) front rest e = go (b == 10) (cut_at 10 text) e (lines-cut text)
  where
    go : (t : Bool) (cut : Option (List ℕ × List ℕ))
        → cond {A = Option (List ℕ × List ℕ)} t (Some ([], text)) (option_map (λ (c : List ℕ × List ℕ). (b ∷ c.0, c.1)) cut) ≡ Some (front, rest)
        → ((f r : List ℕ) → cut ≡ Some (f, r) → whole_lines text ≡ option_map (λ (ls : List (List ℕ)). f ∷ ls) (whole_lines r))
        → cond t (option_map (λ (ls : List (List ℕ)). [] ∷ ls) (whole_lines text)) (option_and_then (onto_line b) (whole_lines text))
        ≡ option_map (λ (ls : List (List ℕ)). front ∷ ls) (whole_lines rest)
    go true cut at ih = let parts = some_pair_parts [] front text rest at in λ i. option_map (λ (ls : List (List ℕ)). parts.0 i ∷ ls) (whole_lines (parts.1 i))
    go false None at ih = cc
    go false (Some (f, r)) at ih =
        let parts = some_pair_parts (b ∷ f) front r rest at in
        ap (option_and_then (onto_line b)) (ih f r refl) ∙ onto-front b f (whole_lines r)
        ∙ (λ i. option_map (λ (ls : List (List ℕ)). parts.0 i ∷ ls) (whole_lines (parts.1 i)))

-- what follows the last newline is no whole line
pub lines-end : (b : ℕ) (text : List ℕ) → cut_at 10 (b ∷ text) ≡ None → whole_lines (b ∷ text) ≡ None
lines-end b [] e = go (b == 10) e
  where
    go : (t : Bool) → ◌≡◌ {A = Option (List ℕ × List ℕ)} (cond {A = Option (List ℕ × List ℕ)} t (Some ([], [])) None) None → ◌≡◌ {A = Option (List (List ℕ))} (cond t (Some ([] ∷ [])) None) None
    go true at = cc
    go false at = refl
lines-end b (x ∷ text) e = go (b == 10) (cut_at 10 (x ∷ text)) e (lines-end x text)
  where
    go : (t : Bool) (cut : Option (List ℕ × List ℕ))
        → ◌≡◌ {A = Option (List ℕ × List ℕ)} (cond {A = Option (List ℕ × List ℕ)} t (Some ([], x ∷ text)) (option_map (λ (c : List ℕ × List ℕ). (b ∷ c.0, c.1)) cut)) None
        → (cut ≡ None → whole_lines (x ∷ text) ≡ None)
        → cond t (option_map (λ (ls : List (List ℕ)). [] ∷ ls) (whole_lines (x ∷ text))) (option_and_then (onto_line b) (whole_lines (x ∷ text))) ≡ None
    go true cut at ih = cc
    go false None at ih = ap (option_and_then (onto_line b)) (ih refl)
    go false (Some c) at ih = cc

-- ---- a loop over the lines

-- lines that were cut off, and then these
abbrev pub with_lines : List (List ℕ) → Option (List (List ℕ)) → Option (List (List ℕ))
with_lines front lines = option_map (λ (ls : List (List ℕ)). front ++ ls) lines

with_lines-more : (front : List (List ℕ)) (line : List ℕ) (lines : Option (List (List ℕ))) → with_lines (front ++ line ∷ []) lines ≡ with_lines front (option_map (λ (ls : List (List ℕ)). line ∷ ls) lines)
with_lines-more front line None = refl
with_lines-more front line (Some ls) = ap Some (append_assoc front (line ∷ []) ls)

-- one more line is cut off
pub lines-more : (front : List (List ℕ)) (line left rest : List ℕ) (all : Option (List (List ℕ))) → Some (line, rest) ≡ cut_at 10 left
    → with_lines front (whole_lines left) ≡ all → with_lines (front ++ line ∷ []) (whole_lines rest) ≡ all
lines-more front line left rest all cut before =
    with_lines-more front line (whole_lines rest) ∙ ap (with_lines front) (sym (lines-cut left line rest (sym cut))) ∙ before

-- something does
pub lines-left : (front : List (List ℕ)) (left : List ℕ) (all : Option (List (List ℕ))) → (length left == 0) ≡ false → None ≡ cut_at 10 left
    → with_lines front (whole_lines left) ≡ all → None ≡ all
lines-left front [] all some cut before = absurd (cc)
lines-left front (b ∷ left) all some cut before = ap (with_lines front) (sym (lines-end b left (sym cut))) ∙ before

-- ---- lines that were written

-- the first of lines that were written
pub lines-ended : (line more : List ℕ) → has_byte 10 line ≡ false → whole_lines ((line ++ 10 ∷ []) ++ more) ≡ option_map (λ (ls : List (List ℕ)). line ∷ ls) (whole_lines more)
lines-ended line more none =
    ap whole_lines (append_assoc line (10 ∷ []) more) ∙ lines-cut (line ++ 10 ∷ more) line more (cut-after 10 line more none refl)

with_lines-none : (lines : Option (List (List ℕ))) → lines ≡ with_lines [] lines
with_lines-none None = refl
with_lines-none (Some ls) = refl

with_lines-cons : (line : List ℕ) (front : List (List ℕ)) (lines : Option (List (List ℕ))) → option_map (λ (ls : List (List ℕ)). line ∷ ls) (with_lines front lines) ≡ with_lines (line ∷ front) lines
with_lines-cons line front None = refl
with_lines-cons line front (Some ls) = refl

-- a line of each element, and then more
pub lines-flat : {X : Type 0} (f : X → List ℕ) (xs : List X) (more : List ℕ) → list_all (λ x. not (has_byte 10 (f x))) xs ≡ true
    → whole_lines (flat_map (λ x. f x ++ 10 ∷ []) xs ++ more) ≡ with_lines (map f xs) (whole_lines more)
lines-flat f [] more none = with_lines-none (whole_lines more)
lines-flat f (x ∷ xs) more none =
    let parts = and_parts (not (has_byte 10 (f x))) (list_all (λ y. not (has_byte 10 (f y))) xs) none in
    ap whole_lines (append_assoc (f x ++ 10 ∷ []) (flat_map (λ y. f y ++ 10 ∷ []) xs) more)
    ∙ lines-ended (f x) (flat_map (λ y. f y ++ 10 ∷ []) xs ++ more) (not-true (has_byte 10 (f x)) parts.0)
    ∙ ap (option_map (λ (ls : List (List ℕ)). f x ∷ ls)) (lines-flat f xs more parts.1)
    ∙ with_lines-cons (f x) (map f xs) (whole_lines more)
