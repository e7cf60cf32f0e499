-- The line that is refused: that it stands in the input, and what is told of it.
use Rattle.std.proofs.Common.{◌≡◌, ℕ, zero, suc, ◌+◌, ◌-◌, ◌<◌, ◌≤◌, ◌==◌, nat_lt, List, [], ◌∷◌, ◌++◌, length, filter, Bool, true, false, not, cond, ◌⊎◌, inl, inr, Option, Some, None, option_map, Result, Ok, Err, refl, sym, ap, ◌∙◌, arith, append_assoc, append-nil, length-append, bytes_eq, true≢false, eq-eqb}
use Rattle.std.specs.Prelude.{slice_get}
use Rattle.std.specs.List.{cons_option}
use Rattle.std.specs.Option.{option_and_then}
use Rattle.std.proofs.lemmas.Bool.{cases_Bool, cases_lt, eqb-true, lt-ltb, ltb-true}
use Rattle.std.proofs.lemmas.Option.{none-some, same_Some}
use Rattle.aud_base.proofs.SameText.{itself_text}
use Rattle.aud_base.specs.Steps.{◌>>=◌}
use Rattle.aud_tap.specs.declared.taps.Tap.{Tap}
use Rattle.aud_reader.specs.declared.line.Line.{Line}
use Rattle.aud_reader.specs.declared.fault.InputCode.{InputCode}
use Rattle.aud_reader.specs.declared.fault.InputCode.TheVariants.{LineTooLong, SecondStream}
use Rattle.aud_reader.specs.declared.fault.ReadFault.{ReadFault}
use Rattle.aud_reader.specs.declared.fault.ReadFault.TheVariants.{Input, Memory}
use Rattle.aud_reader.specs.Bundle.{Reading, at_line, passing_empty, taps_after, taps_from, taps_of, taps_to_come, unless_refused, with_line}
use Rattle.aud_reader.specs.Lines.{is_too_long, line_pieces, lines_from, lines_of, result_of, without_return}
use Rattle.aud_reader.proofs.LinesLemmas.{some_of}
use Rattle.aud_input.specs.declared.input.Layout.TheVariants.{Bundle}
use Rattle.aud_input.specs.Files.{IsTold, header_told, line_told}
use Rattle.aud_input.specs.Input.{bundle_in, certificates_in, input_of, is_certificate, unless_cut, with_certificates}
use Rattle.aud_input.specs.LineName.{name_of}
use Rattle.aud_input.specs.Reader.{HasLines, Holds, InputSoFar, IsIn, line_numbered}
use Rattle.aud_input.specs.TapLines as tap
use Rattle.aud_input.specs.TapLines.{NamedLine, first_kept, first_like, named_at, named_from, named_in, numbers_of, tap_lines_of, taps_noted, with_lines}
use Rattle.aud_input.proofs.GivenLemmas.{at-front, line-stands}
use Rattle.aud_input.proofs.KeptLemmas.{first-of, numbers-cons}
use Rattle.aud_input.proofs.ReturnLemmas.{name-without_return}

-- ---- the number of a refused line

-- a line of these that has this number
abbrev Found : List Line → ℕ → Type 0
Found lines n = (line : Line) × IsIn line lines × (line.number ≡ n)

number-refused : (ts : List Tap) (k : ℕ) (bytes : List ℕ) (n : ℕ) (code : InputCode) → passing_empty ts k bytes ≡ Err (Input n code) → k ≡ n
number-refused ts k [] n code e = cc
number-refused ts k (b ∷ bytes) n code e = go (with_line ts (b ∷ bytes)) e
  where
    go : (r : Result (List Tap) InputCode) → at_line k r ≡ Err (Input n code) → k ≡ n
    go (Ok more) e = cc
    go (Err why) e = cc

-- a refused line is one of those that were read
taps-refused : (ts : List Tap) (lines : List Line) (n : ℕ) (code : InputCode) → taps_from ts lines ≡ Err (Input n code) → Found lines n
taps-refused ts [] n code e = absurd (cc)
taps-refused ts (line ∷ lines) n code e =
    elim (taps_after ts line) as (λ r. taps_after ts line ≡ r → (r >>= λ more. taps_from more lines) ≡ Err (Input n code) → Found (line ∷ lines) n) [
      | Ok more ↦ λ is h. let rest = taps-refused more lines n code h in (rest.0, (suc rest.1.0, rest.1.1), rest.2)
      | Err f ↦ λ is h.
          let why : f ≡ Input n code = cc in
          (line, (zero, refl), number-refused ts line.number line.bytes n code (is ∙ ap (λ g. Err g) why))
    ] refl e

-- it waits, where it was refused among the lines that wait
pub held-refused : (old new : Reading) (waiting : List Line) (e : ReadFault) → old.fault ≡ None → Err e ≡ result_of new.fault
    → ((more : List Line) → ¬ (◌≡◌ {A = Result (Unit {0}) ReadFault} (Err e) (Err Memory)) → taps_to_come new more ≡ taps_to_come old (waiting ++ more)) → ¬ (e ≡ Memory) → Holds e waiting
held-refused old new waiting Memory none value taps other = tt
held-refused old new waiting (Input n code) none value taps other =
    let refused : new.fault ≡ Some (Input n code) = some_of new.fault (Input n code) value in
    let read : taps_from old.taps waiting ≡ Err (Input n code) =
    ap (taps_from old.taps) (sym (append-nil waiting))
    ∙ sym (ap (λ f. unless_refused f (taps_from old.taps (waiting ++ []))) none)
    ∙ sym (taps [] (λ memory. cc))
    ∙ ap (λ f. unless_refused f (taps_from new.taps [])) refused
    in
    taps-refused old.taps waiting n code read

-- ---- it is a line of the input

found-later : (l : Line) (lines : List Line) (n : ℕ) → Found lines n → Found (l ∷ lines) n
found-later l lines n f = (f.0, (suc f.1.0, f.1.1), f.2)

-- lines that pass a test are among all
in-filter : (test : Line → Bool) (lines : List Line) (n : ℕ) → Found (filter test lines) n → Found lines n
in-filter test [] n found = found
in-filter test (l ∷ lines) n found = go (test l) (in-filter test lines n) found
  where
    first : (Found (filter test lines) n → Found lines n) → (line : Line) (i : ℕ) → slice_get (l ∷ filter test lines) i ≡ Some line → line.number ≡ n → Found (l ∷ lines) n
    first rest line zero at is = (line, (zero, at), is)
    first rest line (suc i) at is = found-later l lines n (rest (line, (i, at), is))

    go : (b : Bool) → (Found (filter test lines) n → Found lines n) → Found (cond b (l ∷ filter test lines) (filter test lines)) n → Found (l ∷ lines) n
    go true rest f = first rest f.0 f.1.0 f.1.1 f.2
    go false rest f = found-later l lines n (rest f)

-- a place is within its list
bound : {X : Type 0} (xs : List X) (i : ℕ) (x : X) → slice_get xs i ≡ Some x → i < length xs
bound [] i x at = absurd (none-some x at)
bound (y ∷ xs) zero x at = omega arith
bound (y ∷ xs) (suc i) x at = let rest = bound xs i x at in omega (arith, rest)

number-within : (n : ℕ) (pieces : List (List ℕ)) (line : Line) (i : ℕ) → slice_get (lines_from n pieces).lines i ≡ Some line → line.number < n + length pieces
number-within n pieces line i at =
    let stands = line-stands n pieces i line at in
    let within : i < length pieces = bound pieces i stands.piece stands.at in
    omega (arith, stands.numbered, within)

long-within : (n : ℕ) (pieces : List (List ℕ)) (m : ℕ) (code : InputCode) → (lines_from n pieces).fault ≡ Some (Input m code) → m < n + length pieces
long-within n [] m code is = absurd (none-some _ is)
long-within n (l ∷ ls) m code is =
    elim (is_too_long l) as (λ b. is_too_long l ≡ b → m < n + length (l ∷ ls)) [
      | true ↦ λ e.
          let here : ◌≡◌ {A = Option ReadFault} (Some (Input n LineTooLong)) (Some (Input m code)) = rw e at is in
          let same : n ≡ m = cc in
          omega (arith, same)
      | false ↦ λ e.
          let rest : (lines_from (n + 1) ls).fault ≡ Some (Input m code) = rw e at is in
          let within = long-within (n + 1) ls m code rest in
          omega (arith, within)
    ] refl

-- the number of a refused line is that of one of the text's
pub refused-within : (text : List ℕ) (n : ℕ) (code : InputCode) → input_of Bundle text ≡ Err (Input n code) → n ≤ length (line_pieces text)
refused-within text n code is = go (lines_of text).fault refl (taps_of (bundle_in Bundle (lines_of text).lines)) refl is
  where
    below : n < 1 + length (line_pieces text) → n ≤ length (line_pieces text)
    below less = omega (arith, less)

    read : taps_of (bundle_in Bundle (lines_of text).lines) ≡ Err (Input n code) → n ≤ length (line_pieces text)
    read e =
        let found = in-filter (λ line. not (is_certificate Bundle line)) (lines_of text).lines n (taps-refused [] (bundle_in Bundle (lines_of text).lines) n code e) in
        let number = number-within 1 (line_pieces text) found.0 found.1.0 found.1.1 in
        omega (arith, number, found.2)

    go : (fault : Option ReadFault) → (lines_of text).fault ≡ fault → (taps : Result (List Tap) ReadFault) → taps_of (bundle_in Bundle (lines_of text).lines) ≡ taps
        → unless_cut fault (with_certificates (certificates_in Bundle (lines_of text).lines) taps) ≡ Err (Input n code) → n ≤ length (line_pieces text)
    go None cut (Ok taps) of e = absurd (cc)
    go None cut (Err f) of e = let why : f ≡ Input n code = cc in read (of ∙ ap (λ g. Err g) why)
    go (Some long) cut (Ok taps) of e = let why : long ≡ Input n code = cc in below (long-within 1 (line_pieces text) n code (cut ∙ ap (λ g. Some g) why))
    go (Some long) cut (Err f) of e = let why : f ≡ Input n code = cc in read (of ∙ ap (λ g. Err g) why)

-- ---- its bytes

-- the line that is found
record IsFound (n : ℕ) (lines : List Line) (found : Option Line) : Type 0 where
  pub number : (line : Line) → found ≡ Some line → IsIn line lines × (line.number ≡ n)
  pub there : (line : Line) → IsIn line lines → line.number ≡ n → ¬ (found ≡ None)

find-other : (n : ℕ) (l : Line) (lines : List Line) (line : Line) (i : ℕ) → (l.number == n) ≡ false → IsFound n lines (line_numbered n lines) → slice_get (l ∷ lines) i ≡ Some line → line.number ≡ n
    → ¬ (line_numbered n lines ≡ None)
find-other n l lines line zero e rest at number none =
    let same : l ≡ line = same_Some l line at in
    let equal : l.number ≡ n = ap (λ (l : Line). l.number) same ∙ number in
    true≢false (sym (eq-eqb l.number n equal) ∙ e)
find-other n l lines line (suc i) e rest at number none = rest.there line (i, at) number none

find-line : (n : ℕ) (lines : List Line) → IsFound n lines (line_numbered n lines)
find-line n [] = record { number = λ line is. absurd (none-some line is); there = λ line is number none. none-some line is.1 }
find-line n (l ∷ lines) = go (l.number == n) refl (find-line n lines)
  where
    go : (b : Bool) → (l.number == n) ≡ b → IsFound n lines (line_numbered n lines) → IsFound n (l ∷ lines) (cond b (Some l) (line_numbered n lines))
    go true e rest = record {
      number = λ line is. let same : l ≡ line = same_Some l line is in ((zero, is), ap (λ (l : Line). l.number) (sym same) ∙ eqb-true l.number n e);
      there = λ line is number none. none-some l (sym none);
    }
    go false e rest = record {
      number = λ line is. let found = rest.number line is in ((suc found.0.0, found.0.1), found.1);
      there = λ line is number none. find-other n l lines line is.0 e rest is.1 number none;
    }

-- the first lines are those of the text
lines-whole : (bytes : List ℕ) (s : InputSoFar) (has : HasLines bytes s) → (lines_of bytes).lines ≡ has.lines ++ (has.front []).rest
lines-whole bytes s has = ap (λ text. (lines_of text).lines) (sym (append-nil bytes)) ∙ (has.front []).is

stands-in : (bytes : List ℕ) (s : InputSoFar) (has : HasLines bytes s) (line : Line) → (is : IsIn line has.lines) → slice_get (lines_of bytes).lines is.0 ≡ Some line
stands-in bytes s has line is = ap (λ ls. slice_get ls is.0) (lines-whole bytes s has) ∙ at-front has.lines (has.front []).rest line is.0 is.1

-- the bytes that are told are those of the line
told-bytes : (code : InputCode) (line : Option (List ℕ)) (bytes : List ℕ) → option_map without_return line ≡ Some bytes → IsTold code line bytes
told-bytes code line [] is = λ short. is
told-bytes code line (b ∷ bytes) is = is

pub line-told : (bytes : List ℕ) (s : InputSoFar) (n : ℕ) (code : InputCode) → s.fault ≡ Some (Input n code) → HasLines bytes s
    → IsTold code (slice_get (line_pieces bytes) (n - 1)) (line_told (line_numbered n s.parts.waiting))
line-told bytes s n code refused has = go (line_numbered n s.parts.waiting) refl
  where
    go : (found : Option Line) → line_numbered n s.parts.waiting ≡ found → IsTold code (slice_get (line_pieces bytes) (n - 1)) (line_told found)
    go None none = λ short.
        let held = has.held n code refused short in
        absurd ((find-line n s.parts.waiting).there held.0 held.1 held.2 none)
    go (Some line) found =
        let is = (find-line n s.parts.waiting).number line found in
        let at = has.waits line is.0 in
        let stands = line-stands 1 (line_pieces bytes) at.0 line (stands-in bytes s has line at) in
        let place : n - 1 ≡ at.0 = omega (arith, stands.numbered, is.1) in
        told-bytes code (slice_get (line_pieces bytes) (n - 1)) line.bytes
        (ap (λ i. option_map without_return (slice_get (line_pieces bytes) i)) place ∙ ap (option_map without_return) stands.at ∙ ap (λ b. Some b) (sym stands.bytes))

-- ---- its header

-- lines from the greatest number on are not kept
unkept : (n : ℕ) (ls : List (List ℕ)) → 4294967295 ≤ n → named_from n ls ≡ []
unkept n [] h = refl
unkept n (l ∷ ls) h =
    let rest = unkept (n + 1) ls (omega arith) in
    elim (cases_Bool (nat_lt n 4294967295)) [
      | inl below ↦ let e = ltb-true _ _ below in absurd (omega (arith, e))
      | inr past ↦ rw (past, rest) refl
    ]

cons_option-append : (o : Option NamedLine) (xs ys : List NamedLine) → cons_option o xs ++ ys ≡ cons_option o (xs ++ ys)
cons_option-append None xs ys = refl
cons_option-append (Some x) xs ys = refl

-- the first lines begin with the names of their pieces, and the others come after them
front-named : (n : ℕ) (pieces : List (List ℕ)) (front rest : List Line) → (lines_from n pieces).lines ≡ front ++ rest
    → (others : List (List ℕ)) × (named_from n pieces ≡ named_in front ++ named_from (n + length front) others)
front-named n pieces [] rest is = let same : n + 0 ≡ n = omega arith in (pieces, ap (λ k. named_from k pieces) (sym same))
front-named n [] (f ∷ front) rest is = absurd (cc)
front-named n (l ∷ ls) (f ∷ front) rest is =
    elim (is_too_long l) as (λ b. is_too_long l ≡ b → (others : List (List ℕ)) × (named_from n (l ∷ ls) ≡ named_in (f ∷ front) ++ named_from (n + length (f ∷ front)) others)) [
      | true ↦ λ e. let none : ◌≡◌ {A = List Line} [] (f ∷ front ++ rest) = rw e at is in absurd (cc)
      | false ↦ λ e.
          let own : Line = record { number = n; bytes = without_return l } in
          let here : own ∷ (lines_from (n + 1) ls).lines ≡ f ∷ (front ++ rest) = rw e at is in
          let same : own ≡ f = cc in
          let more : (lines_from (n + 1) ls).lines ≡ front ++ rest = cc in
          let tail = front-named (n + 1) ls front rest more in
          let others : List (List ℕ) = tail.0 in
          let counted : n + 1 + length front ≡ n + length (f ∷ front) = omega arith in
          let name : named_at f.number f.bytes ≡ named_at n l =
          ap (λ (g : Line). named_at g.number g.bytes) (sym same) ∙ ap (λ o. cond (nat_lt n 4294967295) (option_map (λ name. record { number = n; name = name }) o) None) (name-without_return l)
          in (
            others,
            ap (cons_option (named_at n l)) (tail.1 ∙ ap (λ k. named_in front ++ named_from k others) counted)
                ∙ sym (cons_option-append (named_at n l) (named_in front) (named_from (n + length (f ∷ front)) others))
                ∙ ap (λ o. cons_option o (named_in front) ++ named_from (n + length (f ∷ front)) others) (sym name),
          )
    ] refl

numbers-append : (name : List ℕ) (a b : List NamedLine) → numbers_of name (a ++ b) ≡ numbers_of name a ++ numbers_of name b
numbers-append name [] b = refl
numbers-append name (l ∷ a) b =
    numbers-cons name l (a ++ b) ∙ ap (λ ns. cond (bytes_eq l.name name) (l.number ∷ []) [] ++ ns) (numbers-append name a b)
    ∙ sym (append_assoc (cond (bytes_eq l.name name) (l.number ∷ []) []) (numbers_of name a) (numbers_of name b))
    ∙ ap (λ ns. ns ++ numbers_of name b) (sym (numbers-cons name l a))

-- a line that begins with a name has a number among those of that name
some-number : (name : List ℕ) (lines : List Line) (line : Line) (i : ℕ) → slice_get lines i ≡ Some line → name_of line.bytes ≡ Some name → line.number < 4294967295
    → 0 < length (numbers_of name (named_in lines))
some-number name [] line i at named below = absurd (none-some line at)
some-number name (l ∷ lines) line zero at named below =
    let same : l ≡ line = same_Some l line at in
    let named_line : named_at line.number line.bytes ≡ Some (record { number = line.number; name = name }) = rw (lt-ltb line.number 4294967295 below, named) refl in
    let first : named_in (l ∷ lines) ≡ record { number = line.number; name = name } ∷ named_in lines =
    ap (λ (g : Line). cons_option (named_at g.number g.bytes) (named_in lines)) same ∙ ap (λ o. cons_option o (named_in lines)) named_line
    in
    let own : bytes_eq name name ≡ true = itself_text name in
    let numbers : numbers_of name (named_in (l ∷ lines)) ≡ line.number ∷ numbers_of name (named_in lines) =
    ap (numbers_of name) first ∙ numbers-cons name (record { number = line.number; name = name }) (named_in lines) ∙ ap (λ b. cond b (line.number ∷ []) [] ++ numbers_of name (named_in lines)) own
    in
    rw numbers (omega arith)
some-number name (l ∷ lines) line (suc i) at named below =
    let rest = some-number name lines line i at named below in
    elim (named_at l.number l.bytes) as (λ o. 0 < length (numbers_of name (cons_option o (named_in lines)))) [
      | None ↦ rest
      | Some x ↦
          let numbers = ap length (numbers-cons name x (named_in lines)) ∙ length-append (cond (bytes_eq x.name name) (x.number ∷ []) []) (numbers_of name (named_in lines)) in
          omega (arith, numbers, rest)
    ]

first-front : (a b : List ℕ) → 0 < length a → slice_get (a ++ b) 0 ≡ slice_get a 0
first-front [] b some = absurd (omega arith)
first-front (x ∷ a) b some = refl

-- the first line of a name is among the first lines, where one of them begins with it; lines that are not kept change nothing
first-among : (given : List Line) (others : List (List ℕ)) (line : Line) (name : List ℕ) (i : ℕ) → slice_get given i ≡ Some line → line.number ≡ 1 + i → name_of line.bytes ≡ Some name
    → (line.number < 4294967295) ⊎ (4294967295 ≤ line.number) → slice_get (numbers_of name (named_in given)) 0 ≡ slice_get (numbers_of name (named_in given ++ named_from (1 + length given) others)) 0
first-among given others line name i at number named (inl below) =
    let some = some-number name given line i at named below in
    sym (ap (λ ns. slice_get ns 0) (numbers-append name (named_in given) (named_from (1 + length given) others))
    ∙ first-front (numbers_of name (named_in given)) (numbers_of name (named_from (1 + length given) others)) some)
first-among given others line name i at number named (inr past) =
    let short : i < length given = bound given i line at in
    let none : named_from (1 + length given) others ≡ [] = unkept (1 + length given) others (omega (arith, short, number, past)) in
    ap (λ lines. slice_get (numbers_of name lines) 0) (sym (append-nil (named_in given)) ∙ ap (λ more. named_in given ++ more) (sym none))

first-given : (bytes : List ℕ) (s : InputSoFar) (has : HasLines bytes s) (line : Line) (name : List ℕ) → IsIn line has.lines → name_of line.bytes ≡ Some name
    → first_kept (with_lines [] (named_in has.lines)) name ≡ first_kept (tap_lines_of bytes) name
first-given bytes s has line name is named =
    let all = front-named 1 (line_pieces bytes) has.lines (has.front []).rest (lines-whole bytes s has) in
    let stands = line-stands 1 (line_pieces bytes) is.0 line (stands-in bytes s has line is) in
    first-of name (named_in has.lines)
    ∙ first-among has.lines all.0 line name is.0 is.1 stands.numbered named (cases_lt line.number 4294967295)
    ∙ ap (λ lines. slice_get (numbers_of name lines) 0) (sym all.1)
    ∙ sym (first-of name (named_from 1 (line_pieces bytes)))

header-same : (code : InputCode) (a b : List tap.TapLines) (line : List ℕ) → first_like a line ≡ first_like b line → header_told code a line ≡ header_told code b line
header-same SecondStream a b line same = refl
header-same code a b line same = same

-- the header that is told is that of the text
pub header-told : (bytes : List ℕ) (s : InputSoFar) (n : ℕ) (code : InputCode) → HasLines bytes s
    → header_told code (taps_noted s.index) (line_told (line_numbered n s.parts.waiting)) ≡ header_told code (tap_lines_of bytes) (line_told (line_numbered n s.parts.waiting))
header-told bytes s n code has =
    header-same code (taps_noted s.index) (tap_lines_of bytes) (line_told (line_numbered n s.parts.waiting))
    (ap (λ i. first_like (taps_noted i) (line_told (line_numbered n s.parts.waiting))) has.index ∙ go (line_numbered n s.parts.waiting) refl)
  where
    named : (line : Line) → IsIn line has.lines → (o : Option (List ℕ)) → name_of line.bytes ≡ o → option_and_then (first_kept (with_lines [] (named_in has.lines))) o ≡ option_and_then (first_kept (tap_lines_of bytes)) o
    named line is None none = refl
    named line is (Some name) begins = first-given bytes s has line name is begins

    go : (found : Option Line) → line_numbered n s.parts.waiting ≡ found → first_like (with_lines [] (named_in has.lines)) (line_told found) ≡ first_like (tap_lines_of bytes) (line_told found)
    go None none = refl
    go (Some line) found = named line (has.waits line ((find-line n s.parts.waiting).number line found).0) (name_of line.bytes) refl
