-- Lines that stand in one block of memory, which grows.
use Rattle.std.proofs.Common.{◌≡◌, ℕ, zero, suc, ◌+◌, ◌≤◌, List, [], ◌∷◌, ◌++◌, append_assoc, length, length-append, map, take, drop, refl, sym, ap, ◌∙◌, arith}
use Rattle.std.specs.List.{All}
use Rattle.std.proofs.Math.Seq.{drop-append-add, drop-append_seam, take-length}
use Rattle.std.proofs.lemmas.List.{length-take, map-append}
use Rattle.std.proofs.lemmas.List.Elements.{All-append, All-map, All-take}
use Rattle.aud_reader.specs.declared.line.Line.{Line}
use Rattle.aud_reader.specs.declared.lines.Bounds.{Bounds}
use Rattle.aud_reader.specs.Private.Bounds.{AreWithin, line_within, lines_at}

-- what stands within the front is there still
slice-front : (bytes more : List ℕ) (start n : ℕ) → start + n ≤ length bytes → take n (drop start (bytes ++ more)) ≡ take n (drop start bytes)
slice-front bytes more zero zero h = refl
slice-front [] more zero (suc n) h = absurd (omega (arith, h))
slice-front (b ∷ bytes) more zero (suc n) h = ap (λ l. b ∷ l) (slice-front bytes more zero n (omega (arith, h)))
slice-front [] more (suc start) n h = absurd (omega (arith, h))
slice-front (b ∷ bytes) more (suc start) n h = slice-front bytes more start n (omega (arith, h))

-- what follows the front
slice-last : (bytes line : List ℕ) → take (length line) (drop (length bytes) (bytes ++ line)) ≡ line
slice-last [] line = take-length line
slice-last (b ∷ bytes) line = slice-last bytes line

-- those after the first
all-tail : {X : Type 0} (P : X → Type 0) (x : X) (xs : List X) → All P (x ∷ xs) → All P xs
all-tail P x xs all = λ k d h. all (suc k) d (omega (arith, h))

-- one before the others
all-cons : {X : Type 0} (P : X → Type 0) (x : X) (xs : List X) → P x → All P xs → All P (x ∷ xs)
all-cons P x xs here others zero d h = here
all-cons P x xs here others (suc k) d h = others k d (omega (arith, h))

-- it stands within these bytes
abbrev IsWithin : List ℕ → Bounds → Type 0
IsWithin bytes at = at.start + at.length ≤ length bytes

-- the lines stand where they stood
pub lines_at-append : (bytes more : List ℕ) (bounds : List Bounds) → AreWithin bytes bounds → lines_at (bytes ++ more) bounds ≡ lines_at bytes bounds
lines_at-append bytes more [] within = refl
lines_at-append bytes more (at ∷ bounds) within =
    let first : at.start + at.length ≤ length bytes = within 0 at (omega arith) in
    ap (λ (slice : List ℕ). record { number = at.number; bytes = slice } ∷ lines_at (bytes ++ more) bounds) (slice-front bytes more at.start at.length first)
    ∙ ap (λ ls. line_within bytes at ∷ ls) (lines_at-append bytes more bounds (all-tail (IsWithin bytes) at bounds within))

-- one more stands after them
pub lines_at-push : (bytes : List ℕ) (line : Line) (bounds : List Bounds) (at : Bounds) → AreWithin bytes bounds → at.number ≡ line.number → at.start ≡ length bytes → at.length ≡ length line.bytes
    → lines_at (bytes ++ line.bytes) (bounds ++ at ∷ []) ≡ lines_at bytes bounds ++ line ∷ []
lines_at-push bytes line bounds at within number start size =
    map-append (line_within (bytes ++ line.bytes)) bounds (at ∷ [])
    ∙ ap (λ ls. ls ++ line_within (bytes ++ line.bytes) at ∷ []) (lines_at-append bytes line.bytes bounds within)
    ∙ ap (λ l. lines_at bytes bounds ++ l ∷ []) one
  where
    one : line_within (bytes ++ line.bytes) at ≡ line
    one = rw (number, start, size, slice-last bytes line.bytes) refl

-- ---- the lines of another block, put after these

-- where a line stands, by what its block now begins at
abbrev pub shifted : ℕ → Bounds → Bounds
shifted front at = record { number = at.number; start = front + at.start; length = at.length }

-- a line is the same where its block now stands
line-shifted : (bytes more : List ℕ) (at : Bounds) → line_within (bytes ++ more) (shifted (length bytes) at) ≡ line_within more at
line-shifted bytes more at = ap (λ (slice : List ℕ). record { number = at.number; bytes = take at.length slice }) (drop-append-add bytes more at.start)

lines-shifted : (bytes more : List ℕ) (others : List Bounds) → lines_at (bytes ++ more) (map (shifted (length bytes)) others) ≡ lines_at more others
lines-shifted bytes more [] = refl
lines-shifted bytes more (at ∷ others) =
    ap (λ (l : Line). l ∷ lines_at (bytes ++ more) (map (shifted (length bytes)) others)) (line-shifted bytes more at)
    ∙ ap (λ ls. line_within more at ∷ ls) (lines-shifted bytes more others)

-- the lines of both
pub lines_at-both : (bytes more : List ℕ) (bounds others : List Bounds) → AreWithin bytes bounds
    → lines_at (bytes ++ more) (bounds ++ map (shifted (length bytes)) others) ≡ lines_at bytes bounds ++ lines_at more others
lines_at-both bytes more bounds others within =
    map-append (line_within (bytes ++ more)) bounds (map (shifted (length bytes)) others)
    ∙ ap (λ ls. ls ++ lines_at (bytes ++ more) (map (shifted (length bytes)) others)) (lines_at-append bytes more bounds within)
    ∙ ap (λ ls. lines_at bytes bounds ++ ls) (lines-shifted bytes more others)

-- and all of them stand within the bytes of both, a front of the other's too
pub within-both : (bytes more : List ℕ) (bounds others : List Bounds) (n : ℕ) → AreWithin bytes bounds → AreWithin more others
    → AreWithin (bytes ++ more) (bounds ++ map (shifted (length bytes)) (take n others))
within-both bytes more bounds others n within after =
    let both = length-append bytes more in
    let front = All-take (IsWithin more) n others after in
    All-append (IsWithin (bytes ++ more)) bounds (map (shifted (length bytes)) (take n others)) (λ k d h. omega (arith, both, within k d h))
    (All-map (IsWithin (bytes ++ more)) (shifted (length bytes)) (take n others) (λ k d h. omega (arith, both, front k d h)))

-- ---- the lines of a text that stands at the end of the block

-- they stand within a longer block
pub within-longer : (bytes more : List ℕ) (bounds : List Bounds) → AreWithin bytes bounds → AreWithin (bytes ++ more) bounds
within-longer bytes more bounds within = let both = length-append bytes more in λ k d h. omega (arith, both, within k d h)

-- what follows the next newline stands at its end too
pub stands-on : (bytes done left front others : List ℕ) → bytes ≡ done ++ left → left ≡ front ++ 10 ∷ others → (done : List ℕ) × (bytes ≡ done ++ others)
stands-on bytes done left front others stands cut = (
  done ++ (front ++ 10 ∷ []),
  stands ∙ ap (λ l. done ++ l) (cut ∙ sym (append_assoc front (10 ∷ []) others)) ∙ sym (append_assoc done (front ++ 10 ∷ []) others),
)

-- where the next line of it stands
pub record IsCut (bytes left : List ℕ) (at : Bounds) (line : Line) : Type 0 where
  pub done : List ℕ
  pub stands : bytes ≡ done ++ left
  pub number : at.number ≡ line.number
  pub start : at.start ≡ length done
  pub size : at.length ≡ length line.bytes

-- that line stands after the others
pub lines_at-cut : (bytes left front others : List ℕ) (bounds : List Bounds) (at : Bounds) (line : Line) → IsCut bytes left at line → left ≡ front ++ 10 ∷ others
    → line.bytes ≡ take (length line.bytes) front → lines_at bytes (bounds ++ at ∷ []) ≡ lines_at bytes bounds ++ line ∷ []
lines_at-cut bytes left front others bounds at line is cut within =
    map-append (line_within bytes) bounds (at ∷ []) ∙ ap (λ l. lines_at bytes bounds ++ l ∷ []) one
  where
    fits : length line.bytes ≤ length front
    fits = omega (arith, ap length within, length-take (length line.bytes) front)

    slice : take (length line.bytes) (drop (length is.done) (is.done ++ (front ++ 10 ∷ others))) ≡ line.bytes
    slice =
        ap (take (length line.bytes)) (drop-append_seam is.done (front ++ 10 ∷ others))
        ∙ slice-front front (10 ∷ others) 0 (length line.bytes) (omega (arith, fits)) ∙ sym within

    one : line_within bytes at ≡ line
    one = rw (is.number, is.start, is.size, is.stands, cut) (ap (λ (bytes : List ℕ). record { number = line.number; bytes = bytes }) slice)

-- and within the block, as those before it do
pub within-cut : (bytes left front others : List ℕ) (bounds : List Bounds) (at : Bounds) (line : Line) → IsCut bytes left at line → left ≡ front ++ 10 ∷ others
    → line.bytes ≡ take (length line.bytes) front → AreWithin bytes bounds → AreWithin bytes (bounds ++ at ∷ [])
within-cut bytes left front others bounds at line is cut within are =
    All-append (IsWithin bytes) bounds (at ∷ []) are (all-cons (IsWithin bytes) at [] here (λ k d h. absurd (omega (arith, h))))
  where
    here : at.start + at.length ≤ length bytes
    here = omega (arith, is.start, is.size, ap length is.stands, length-append is.done left, ap length cut, length-append front (10 ∷ others), ap length within, length-take (length line.bytes) front)
