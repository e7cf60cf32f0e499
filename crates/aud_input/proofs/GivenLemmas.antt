-- The lines that a splitter has given so far, of an input that begins with some bytes.
use Rattle.std.proofs.Common.{◌≡◌, ℕ, zero, suc, ◌+◌, ◌<◌, ◌==◌, List, [], ◌∷◌, ◌++◌, length, Bool, true, false, not, cond, ◌⊎◌, inl, inr, Option, Some, None, option_map, count_by, refl, sym, ap, ◌∙◌, subst, arith, append_assoc, append-nil, length-append, zero-add}
use Rattle.std.specs.Prelude.{slice_get}
use Rattle.std.specs.List.{cons_option}
use Rattle.std.proofs.lemmas.List.Sums.{sum_by-append, sum_by-cons}
use Rattle.std.proofs.lemmas.Option.{none-some, same_Some}
use Rattle.aud_reader.specs.declared.line.Line.{Line}
use Rattle.aud_reader.specs.declared.fault.InputCode.{InputCode}
use Rattle.aud_reader.specs.declared.fault.InputCode.TheVariants.{LineTooLong}
use Rattle.aud_reader.specs.declared.fault.ReadFault.{ReadFault}
use Rattle.aud_reader.specs.declared.fault.ReadFault.TheVariants.{Input, Memory}
use Rattle.aud_reader.specs.Lines.{IsFront, IsPartial, Lines, Split, after_lines, is_too_long, line_pieces, lines_from, lines_of, lines_to_come, onto_first, without_return}
use Rattle.aud_reader.proofs.LinesLemmas.{pieces_of-last, pieces_of-line}
use Rattle.aud_input.specs.declared.index.LineIndex.{LineIndex}
use Rattle.aud_input.specs.Private.Going.{Cuts, Notes, reader_of}
use Rattle.aud_input.specs.Reader.{AreAmong, GoesOn, HasLines, Holds, HoldsRefused, InputSoFar, IsIn, PartsSoFar}
use Rattle.aud_input.specs.Sources.{is_begun}
use Rattle.aud_input.specs.TapLines.{Indexed, TapLines, last_number, lines_noted, named_at, named_in, no_lines, noted, with_line, with_lines}

-- ---- how many lines a text has

-- how many newlines are among these bytes
abbrev pub newlines_in : List ℕ → ℕ
newlines_in bytes = count_by (λ b. b == 10) bytes

onto-length : (x y : ℕ) (bs : List ℕ) → length (onto_first x (line_pieces (y ∷ bs))) ≡ length (line_pieces (y ∷ bs))
onto-length x y bs =
    elim (y == 10) as (λ t. length (onto_first x (cond t ([] ∷ line_pieces bs) (onto_first y (line_pieces bs)))) ≡ length (cond t ([] ∷ line_pieces bs) (onto_first y (line_pieces bs)))) [
      | true ↦ refl
      | false ↦ onto-first (line_pieces bs)
    ]
  where
    onto-first : (ls : List (List ℕ)) → length (onto_first x (onto_first y ls)) ≡ length (onto_first y ls)
    onto-first [] = refl
    onto-first (l ∷ ls) = refl

newlines-cons : (x : ℕ) (bs : List ℕ) → newlines_in (x ∷ bs) ≡ cond (x == 10) 1 0 + newlines_in bs
newlines-cons x bs = sum_by-cons (λ b. cond (b == 10) 1 0) x bs

pub newlines-append : (a b : List ℕ) → newlines_in (a ++ b) ≡ newlines_in a + newlines_in b
newlines-append a b = sum_by-append (λ x. cond (x == 10) 1 0) a b

pub begun-append : (begun : Bool) (a b : List ℕ) → is_begun begun (a ++ b) ≡ is_begun (is_begun begun a) b
begun-append begun [] b = refl
begun-append begun (x ∷ a) b = begun-append (not (x == 10)) a b

counted : (lines newlines begun : ℕ) → lines ≡ newlines + begun → suc lines ≡ (1 + newlines) + begun
counted lines newlines begun is = omega (arith, is)

-- a text has a line for each newline, and one that has begun
pub lines_counted : (bs : List ℕ) → length (line_pieces bs) ≡ newlines_in bs + cond (is_begun false bs) 1 0
lines_counted [] = refl
lines_counted (x ∷ []) = one ∙ ap (λ n. n + cond (not (x == 10)) 1 0) (sym (newlines-cons x []))
  where
    one : length (line_pieces (x ∷ [])) ≡ (cond (x == 10) 1 0 + 0) + cond (not (x == 10)) 1 0
    one =
        elim (x == 10) as (λ t. length (cond t ([] ∷ []) (onto_first x [])) ≡ (cond t 1 0 + 0) + cond (not t) 1 0) [
          | true ↦ refl
          | false ↦ refl
        ]
lines_counted (x ∷ y ∷ bs) =
    let lines : ℕ = length (line_pieces (y ∷ bs)) in
    let newlines : ℕ = newlines_in (y ∷ bs) in
    let begun : ℕ = cond (is_begun false (y ∷ bs)) 1 0 in
    let rest : lines ≡ newlines + begun = lines_counted (y ∷ bs) in
    let other : length (onto_first x (line_pieces (y ∷ bs))) ≡ (0 + newlines) + begun = onto-length x y bs ∙ rest ∙ ap (λ n. n + begun) (sym (zero-add newlines)) in
    let all : length (line_pieces (x ∷ y ∷ bs)) ≡ (cond (x == 10) 1 0 + newlines) + begun =
    elim (x == 10) as (λ t. length (cond t ([] ∷ line_pieces (y ∷ bs)) (onto_first x (line_pieces (y ∷ bs)))) ≡ (cond t 1 0 + newlines) + begun) [
      | true ↦ counted lines newlines begun rest
      | false ↦ other
    ]
    in
    all ∙ ap (λ n. n + begun) (sym (newlines-cons x (y ∷ bs)))

-- ---- the lines of some pieces

-- without a refusal there is a line for each piece
pub lines-length : (n : ℕ) (pieces : List (List ℕ)) → (lines_from n pieces).fault ≡ None → length (lines_from n pieces).lines ≡ length pieces
lines-length n [] whole = refl
lines-length n (l ∷ ls) whole =
    elim (is_too_long l) as (λ b. is_too_long l ≡ b → length (lines_from n (l ∷ ls)).lines ≡ length (l ∷ ls)) [
      | true ↦ λ e. absurd (none-some _ (sym (rw e at whole)))
      | false ↦ λ e. let rest : (lines_from (n + 1) ls).fault ≡ None = rw e at whole in rw e (ap suc (lines-length (n + 1) ls rest))
    ] refl

-- a line of an input, the piece that it is, and its number
pub record StandsAt (pieces : List (List ℕ)) (n place : ℕ) (line : Line) : Type 0 where
  pub piece : List ℕ
  pub numbered : line.number ≡ n + place
  pub at : slice_get pieces place ≡ Some piece
  pub bytes : line.bytes ≡ without_return piece

pub line-stands : (n : ℕ) (pieces : List (List ℕ)) (place : ℕ) (line : Line) → slice_get (lines_from n pieces).lines place ≡ Some line → StandsAt pieces n place line
line-stands n [] place line is = absurd (none-some line is)
line-stands n (l ∷ ls) zero line is =
    elim (is_too_long l) as (λ b. is_too_long l ≡ b → StandsAt (l ∷ ls) n 0 line) [
      | true ↦ λ e. let none : ◌≡◌ {A = Option Line} None (Some line) = rw e at is in absurd (none-some line none)
      | false ↦ λ e.
          let own : Line = record { number = n; bytes = without_return l } in
          let here : Some own ≡ Some line = rw e at is in
          let same : own ≡ line = same_Some own line here in
          let number : line.number ≡ n = ap (λ (l : Line). l.number) (sym same) in
          record { piece = l; numbered = omega (arith, number); at = refl; bytes = ap (λ (l : Line). l.bytes) (sym same) }
    ] refl
line-stands n (l ∷ ls) (suc place) line is =
    elim (is_too_long l) as (λ b. is_too_long l ≡ b → StandsAt (l ∷ ls) n (suc place) line) [
      | true ↦ λ e. let none : ◌≡◌ {A = Option Line} None (Some line) = rw e at is in absurd (none-some line none)
      | false ↦ λ e.
          let there : slice_get (lines_from (n + 1) ls).lines place ≡ Some line = rw e at is in
          let rest = line-stands (n + 1) ls place line there in
          record { piece = rest.piece; numbered = omega (arith, rest.numbered); at = rest.at; bytes = rest.bytes }
    ] refl

-- the number of the last of the first lines
pub last-number : (m : ℕ) (pieces : List (List ℕ)) (front rest : List Line) → (lines_from (m + 1) pieces).lines ≡ front ++ rest → last_number m front ≡ m + length front
last-number m pieces [] rest is = omega arith
last-number m [] (f ∷ front) rest is = cc
last-number m (l ∷ ls) (f ∷ front) rest is =
    elim (is_too_long l) as (λ b. is_too_long l ≡ b → last_number m (f ∷ front) ≡ m + length (f ∷ front)) [
      | true ↦ λ e. let none : ◌≡◌ {A = List Line} [] (f ∷ front ++ rest) = rw e at is in cc
      | false ↦ λ e.
          let own : Line = record { number = m + 1; bytes = without_return l } in
          let here : own ∷ (lines_from (m + 1 + 1) ls).lines ≡ f ∷ (front ++ rest) = rw e at is in
          let same : own ≡ f = cc in
          let more : (lines_from (m + 1 + 1) ls).lines ≡ front ++ rest = cc in
          let number : last_number m (f ∷ front) ≡ last_number (m + 1) front = ap (λ (g : Line). last_number g.number front) (sym same) in
          let others : last_number (m + 1) front ≡ m + 1 + length front = last-number (m + 1) ls front rest more in
          omega (arith, number, others)
    ] refl

-- a refusal that ends the lines is that of a line that is too long
cut-long : (n : ℕ) (pieces : List (List ℕ)) (m : ℕ) (code : InputCode) → (lines_from n pieces).fault ≡ Some (Input m code) → code ≡ LineTooLong
cut-long n [] m code is = absurd (none-some _ is)
cut-long n (l ∷ ls) m code is =
    elim (is_too_long l) as (λ b. is_too_long l ≡ b → code ≡ LineTooLong) [
      | true ↦ λ e. let here : ◌≡◌ {A = Option ReadFault} (Some (Input n LineTooLong)) (Some (Input m code)) = rw e at is in cc
      | false ↦ λ e. let rest : (lines_from (n + 1) ls).fault ≡ Some (Input m code) = rw e at is in cut-long (n + 1) ls m code rest
    ] refl

-- ---- lines among others

-- a line of the first lines stands among all at its place
pub at-front : (a b : List Line) (line : Line) (i : ℕ) → slice_get a i ≡ Some line → slice_get (a ++ b) i ≡ Some line
at-front [] b line i e = absurd (none-some line e)
at-front (x ∷ a) b line zero e = e
at-front (x ∷ a) b line (suc i) e = at-front a b line i e

pub in-front : (a b : List Line) (line : Line) → IsIn line a → IsIn line (a ++ b)
in-front a b line is = (is.0, at-front a b line is.0 is.1)

in-after : (a b : List Line) (line : Line) → IsIn line b → IsIn line (a ++ b)
in-after [] b line is = is
in-after (x ∷ a) b line is = let rest = in-after a b line is in (suc rest.0, rest.1)

in-later : (x : Line) (a b : List Line) (line : Line) → IsIn line a ⊎ IsIn line b → IsIn line (x ∷ a) ⊎ IsIn line b
in-later x a b line (inl here) = inl (suc here.0, here.1)
in-later x a b line (inr there) = inr there

at-either : (a b : List Line) (line : Line) (i : ℕ) → slice_get (a ++ b) i ≡ Some line → IsIn line a ⊎ IsIn line b
at-either [] b line i e = inr (i, e)
at-either (x ∷ a) b line zero e = inl (zero, e)
at-either (x ∷ a) b line (suc i) e = in-later x a b line (at-either a b line i e)

in-either : (a b : List Line) (line : Line) → IsIn line (a ++ b) → IsIn line a ⊎ IsIn line b
in-either a b line is = at-either a b line is.0 is.1

pub among-before : (old : List Line) (line : Line) → AreAmong old (old ++ line ∷ [])
among-before old line l is = in-front old (line ∷ []) l is

-- one line more was read, of those to come
pub among-next : (new old rest all : List Line) (line : Line) → AreAmong new (old ++ line ∷ []) → AreAmong (old ++ line ∷ rest) all → AreAmong (new ++ rest) all
among-next new old rest all line first others l is = elim (in-either new rest l is) [
  | inl here ↦ others l (subst (IsIn l) (append_assoc old (line ∷ []) rest) (in-front (old ++ line ∷ []) rest l (first l here)))
  | inr there ↦ others l (in-after old (line ∷ rest) l (in-after (line ∷ []) rest l there))
]

-- at the end of the lines to come
pub among-end : (new rest all : List Line) → AreAmong (new ++ rest) all → AreAmong new all
among-end new rest all others l is = others l (in-front new rest l is)

-- ---- an index with more lines

taps-more : (ts : List TapLines) (a b : List Line) → with_lines (with_lines ts (named_in a)) (named_in b) ≡ with_lines ts (named_in (a ++ b))
taps-more ts [] b = refl
taps-more ts (l ∷ a) b = elim (named_at l.number l.bytes) as (λ o. with_lines (with_lines ts (cons_option o (named_in a))) (named_in b) ≡ with_lines ts (cons_option o (named_in (a ++ b)))) [
  | None ↦ taps-more ts a b
  | Some line ↦ taps-more (with_line ts line) a b
]

last-more : (n : ℕ) (a b : List Line) → last_number (last_number n a) b ≡ last_number n (a ++ b)
last-more n [] b = refl
last-more n (l ∷ a) b = last-more l.number a b

noted-more : (s : Indexed) (a b : List Line) → noted (noted s a) b ≡ noted s (a ++ b)
noted-more s a b = rw (taps-more s.taps a b, last-more s.lines a b) refl

-- ---- a piece that is read

-- lines in front of lines in front of others
after-after : (a b : List Line) (ls : Lines) → after_lines a (after_lines b ls) ≡ after_lines (a ++ b) ls
after-after a b ls = ap (λ lines. record { lines = lines; fault = ls.fault }) (sym (append_assoc a b ls.lines))

-- no line is refused
pub holds-none : (waiting : List Line) → HoldsRefused None waiting
holds-none waiting n code same other = absurd (none-some _ same)

-- the refused line waits
pub holds-some : (waiting : List Line) (e : ReadFault) → (¬ (e ≡ Memory) → Holds e waiting) → HoldsRefused (Some e) waiting
holds-some waiting e held n code same other =
    let is : e ≡ Input n code = same_Some e (Input n code) same in
    subst (λ f. Holds f waiting) is (held (λ memory. cc))

-- a line that is too long doesn't
pub holds-long : (waiting : List Line) (s t : Split) (piece : List ℕ) (e : ReadFault) → s.fault ≡ None → Cuts s t piece (Some e) → HoldsRefused (Some e) waiting
holds-long waiting s t piece e none cut n code same other =
    let is : e ≡ Input n code = same_Some e (Input n code) same in
    let fault : (lines_from s.number (line_pieces (s.rest ++ (piece ++ [])))).fault ≡ Some e =
    rw (none, cut.fault) at (sym (ap (λ (ls : Lines). ls.fault) (cut.lines []))) in
    absurd (other (cut-long s.number (line_pieces (s.rest ++ (piece ++ []))) n code (fault ∙ ap (λ f. Some f) is)))

-- how a splitter goes on from one to another, that gave these lines
pub record CutsOn (s t : Split) (piece : List ℕ) (given : List Line) : Type 0 where
  pub cuts : (more : List ℕ) → lines_to_come s (piece ++ more) ≡ after_lines given (lines_to_come t more)
  pub unrefused : t.fault ≡ None
  pub taken : t.waiting ≡ []
  pub partial : IsPartial t.rest

-- it goes on so where it refused nothing
cuts-on : (s fed t : Split) (piece : List ℕ) → Cuts s fed piece None → t ≡ record fed { waiting = [] } → CutsOn s t piece fed.waiting
cuts-on s fed t piece cut left = record {
  cuts = λ more. sym (cut.lines more) ∙ rw left refl;
  unrefused = ap (λ (u : Split). u.fault) left ∙ cut.fault;
  taken = ap (λ (u : Split). u.waiting) left;
  partial = subst IsPartial (sym (ap (λ (u : Split). u.rest) left)) (cut.partial refl);
}

-- one more piece
read_on : (bytes piece : List ℕ) (old new : InputSoFar) (given : List Line) → old.fault ≡ None → ((more : List ℕ) → IsFront given (lines_to_come old.cut (piece ++ more)).lines)
    → (new.fault ≡ None → CutsOn old.cut new.cut piece given) → new.index ≡ option_map (λ s. noted s given) old.index
    → AreAmong new.parts.waiting (old.parts.waiting ++ given) → HoldsRefused new.fault new.parts.waiting → HasLines bytes old → HasLines (bytes ++ piece) new
read_on bytes piece old new given none front goes index waits held has =
    let going = has.whole none in
    record {
      lines = has.lines ++ given;
      front = λ more. record {
        rest = (front more).rest;
        is =
            ap (λ text. (lines_of text).lines) (append_assoc bytes piece more)
            ∙ ap (λ (ls : Lines). ls.lines) (going.cuts (piece ++ more))
            ∙ ap (λ ls. has.lines ++ ls) (front more).is
            ∙ sym (append_assoc has.lines given (front more).rest);
      };
      whole = λ unrefused.
          let next = goes unrefused in
          record {
            cuts = λ more.
                ap lines_of (append_assoc bytes piece more)
                ∙ going.cuts (piece ++ more)
                ∙ ap (after_lines has.lines) (next.cuts more)
                ∙ after-after has.lines given (lines_to_come new.cut more);
            unrefused = next.unrefused;
            taken = next.taken;
            partial = next.partial;
          };
      index = index ∙ ap (option_map (λ s. noted s given)) has.index ∙ ap (λ s. Some s) (noted-more no_lines has.lines given);
      waits = λ line is. elim (in-either old.parts.waiting given line (waits line is)) [
        | inl before ↦ in-front has.lines given line (has.waits line before)
        | inr here ↦ in-after has.lines given line here
      ];
      held = held;
    }

-- the lines that a piece ends are noted, and those that wait are among them and those that waited
pub piece_read : (bytes piece : List ℕ) (s fed t : Split) (old mid new : PartsSoFar) (before after : Option LineIndex) (refused fault : Option ReadFault) → Cuts s fed piece refused → Notes before after fed.waiting
    → (fault ≡ None → (refused ≡ None) × (t ≡ record fed { waiting = [] })) → AreAmong mid.waiting old.waiting → AreAmong new.waiting (mid.waiting ++ fed.waiting) → HoldsRefused fault new.waiting
    → HasLines bytes (reader_of s old before None) → HasLines (bytes ++ piece) (reader_of t new after fault)
piece_read bytes piece s fed t old mid new before after refused fault cut notes goes waited waits held has =
    read_on bytes piece (reader_of s old before None) (reader_of t new after fault) fed.waiting refl cut.front
    (λ none. let on = goes none in cuts-on s fed t piece (subst (Cuts s fed piece) on.0 cut) on.1) notes.noted
    (λ line is. elim (in-either mid.waiting fed.waiting line (waits line is)) [
      | inl among ↦ in-front old.waiting fed.waiting line (waited line among)
      | inr given ↦ in-after old.waiting fed.waiting line given
    ])
    held has

-- the lines that wait are read
pub waited : (bytes : List ℕ) (old new : InputSoFar) → old.fault ≡ None → new.cut ≡ old.cut → new.index ≡ old.index → AreAmong new.parts.waiting old.parts.waiting
    → HoldsRefused new.fault new.parts.waiting → HasLines bytes old → HasLines bytes new
waited bytes old new none cut index waits held has = record {
  lines = has.lines;
  front = has.front;
  whole = λ unrefused. subst (GoesOn bytes has.lines) (sym cut) (has.whole none);
  index = index ∙ has.index;
  waits = λ line is. has.waits line (waits line is);
  held = held;
}

-- ---- all lines of a text

-- the line that has begun, once it is ended
begun-line : Split → Line
begun-line s = record { number = s.number; bytes = without_return s.rest }

one-line : (s : Split) → s.fault ≡ None → s.waiting ≡ [] → IsPartial s.rest → lines_to_come s (10 ∷ []) ≡ record { lines = begun-line s ∷ []; fault = None }
unfolding begun-line
one-line s unrefused taken partial = rw (unrefused, taken, pieces_of-line s.rest [] partial.unended, partial.within) refl

last-line : (s : Split) → s.fault ≡ None → s.waiting ≡ [] → IsPartial s.rest → 0 < length s.rest → lines_to_come s [] ≡ record { lines = begun-line s ∷ []; fault = None }
unfolding begun-line
last-line s unrefused taken partial some = rw (unrefused, taken, append-nil s.rest, pieces_of-last s.rest partial.unended some, partial.within) refl

-- how many pieces a text has that gives these lines and one more
one-more : (text : List ℕ) (lines : List Line) (line : Line) → lines_of text ≡ record { lines = lines ++ line ∷ []; fault = None } → length (line_pieces text) ≡ length lines + 1
one-more text lines line all =
    sym (lines-length 1 (line_pieces text) (ap (λ (ls : Lines). ls.fault) all)) ∙ ap (λ (ls : Lines). length ls.lines) all ∙ length-append lines (line ∷ [])

-- there is a line for each newline
pub given-newlines : (bytes : List ℕ) (s : InputSoFar) (has : HasLines bytes s) → s.fault ≡ None → length has.lines ≡ newlines_in bytes
given-newlines bytes s has none =
    let going = has.whole none in
    let all : lines_of (bytes ++ 10 ∷ []) ≡ record { lines = has.lines ++ begun-line s.cut ∷ []; fault = None } =
    going.cuts (10 ∷ []) ∙ ap (after_lines has.lines) (one-line s.cut going.unrefused going.taken going.partial) in
    let begun : is_begun false (bytes ++ 10 ∷ []) ≡ false = begun-append false bytes (10 ∷ []) in
    let pieces : length (line_pieces (bytes ++ 10 ∷ [])) ≡ newlines_in (bytes ++ 10 ∷ []) + 0 = lines_counted (bytes ++ 10 ∷ []) ∙ ap (λ b. newlines_in (bytes ++ 10 ∷ []) + cond b 1 0) begun in
    let one : newlines_in (10 ∷ []) ≡ 1 + newlines_in [] = newlines-cons 10 [] in
    let none_more : newlines_in [] ≡ 0 = refl in
    omega (arith, one-more (bytes ++ 10 ∷ []) has.lines (begun-line s.cut) all, pieces, newlines-append bytes (10 ∷ []), one, none_more)

-- and so many were noted
pub noted-length : (bytes : List ℕ) (s : InputSoFar) (has : HasLines bytes s) → lines_noted s.index ≡ length has.lines
noted-length bytes s has = ap lines_noted has.index ∙ last-number 0 (line_pieces (bytes ++ [])) has.lines (has.front []).rest (has.front []).is ∙ zero-add (length has.lines)

pub noted-newlines : (bytes : List ℕ) (s : InputSoFar) → HasLines bytes s → s.fault ≡ None → lines_noted s.index ≡ newlines_in bytes
noted-newlines bytes s has none = noted-length bytes s has ∙ given-newlines bytes s has none

-- of a text whose last line is ended no line has begun
pub nothing-begun : (bytes : List ℕ) (s : InputSoFar) → HasLines bytes s → s.fault ≡ None → is_begun false bytes ≡ false → lines_to_come s.cut [] ≡ record { lines = []; fault = None }
nothing-begun bytes s has none ended =
    let going = has.whole none in
    elim s.cut.rest as (λ rest. s.cut.rest ≡ rest → lines_to_come s.cut [] ≡ record { lines = []; fault = None }) [
      | [] ↦ λ e. rw (going.unrefused, going.taken, e) refl
      | x ∷ rest ↦ λ e.
          let some : 0 < length s.cut.rest = rw e (omega arith) in
          let all : lines_of (bytes ++ []) ≡ record { lines = has.lines ++ begun-line s.cut ∷ []; fault = None } =
          going.cuts [] ∙ ap (after_lines has.lines) (last-line s.cut going.unrefused going.taken going.partial some) in
          let more : length (line_pieces (bytes ++ [])) ≡ length has.lines + 1 = one-more (bytes ++ []) has.lines (begun-line s.cut) all in
          let same : length (line_pieces (bytes ++ [])) ≡ length (line_pieces bytes) = ap (λ text. length (line_pieces text)) (append-nil bytes) in
          let pieces : length (line_pieces bytes) ≡ newlines_in bytes + 0 = lines_counted bytes ∙ ap (λ b. newlines_in bytes + cond b 1 0) ended in
          absurd (omega (arith, more, same, pieces, given-newlines bytes s has none))
    ] refl

-- the lines that were given are all
pub all-given : (bytes : List ℕ) (s : InputSoFar) (has : HasLines bytes s) → s.fault ≡ None → is_begun false bytes ≡ false → lines_of bytes ≡ record { lines = has.lines; fault = None }
all-given bytes s has none ended =
    ap lines_of (sym (append-nil bytes)) ∙ (has.whole none).cuts [] ∙ ap (after_lines has.lines) (nothing-begun bytes s has none ended)
    ∙ ap (λ lines. record { lines = lines; fault = None }) (append-nil has.lines)
