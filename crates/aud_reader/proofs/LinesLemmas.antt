-- What a newline and the end of a piece do to the lines of a text.
use Rattle.std.proofs.Common.{◌≡◌, ℕ, zero, suc, ◌+◌, ◌-◌, ◌<◌, ◌≤◌, ◌==◌, ◌&&◌, ◌||◌, nat_lt, List, [], ◌∷◌, ◌++◌, length, take, drop, Bool, true, false, cond, Option, Some, None, refl, sym, ap, ◌∙◌, arith, append_assoc, append-nil, length-append, drop-cons, add-one, slice_index, inl, inr, Ok, Err}
use Rattle.std.proofs.lemmas.Bool.{cases_Bool, eqb-true, ltb-true, lt-ltb}
use Rattle.std.proofs.lemmas.List.{take-append-drop, take_rest}
use Rattle.std.proofs.lemmas.List.Folds.{list_any-append}
use Rattle.std.proofs.Math.ListN.{length-take}
use Rattle.std.proofs.Math.Seq.{take-length}
use Rattle.memchr.specs.Find.{Nowhere, Passes, is_byte}
use Rattle.aud_reader.specs.declared.line.Line.{Line}
use Rattle.aud_reader.specs.declared.fault.ReadFault.{ReadFault}
use Rattle.aud_reader.specs.declared.fault.ReadFault.TheVariants.{Input}
use Rattle.aud_reader.specs.declared.fault.InputCode.TheVariants.{LineTooLong}
use Rattle.aud_reader.specs.Lines.{Lines, Split, line_pieces, onto_first, without_return, is_too_long, lines_from, lines_to_come, line_at, result_of, after_lines, has_newline}
use Rattle.aud_reader.specs.Private.SplitterSteps.{at_line, line_ended, line_begun, splitter_with_line}

-- a search that finds no newline before a place
pub none_before : (text : List ℕ) (n : ℕ) → Nowhere (Passes (is_byte 10) text) 0 n → has_newline (take n text) ≡ false
none_before text zero h = refl
none_before [] (suc n) h = refl
none_before (x ∷ text) (suc n) h =
    elim (cases_Bool (x == 10)) [
      | inl e ↦ absurd (h 0 (omega arith) (omega arith) e)
      | inr e ↦ rw e (none_before text n (λ k low high. h (suc k) (omega arith) (omega arith)))
    ]

-- a search that finds no newline up to the end: the text has none
pub none_within : (text : List ℕ) → Nowhere (Passes (is_byte 10) text) 0 (length text) → has_newline text ≡ false
none_within text h = rw take-length at (none_before text (length text) h)

-- two texts without a newline, one after the other, have none
pub has_newline-append : (a b : List ℕ) → has_newline a ≡ false → has_newline b ≡ false → has_newline (a ++ b) ≡ false
has_newline-append a b p q = rw (list_any-append (λ x. x == 10) a b, p) q

-- a newline ends the line that has begun
pub pieces_of-line : (front more : List ℕ) → has_newline front ≡ false → line_pieces (front ++ 10 ∷ more) ≡ front ∷ line_pieces more
pieces_of-line [] more p = refl
pieces_of-line (x ∷ front) more p =
    elim (x == 10) as (λ t. (t || has_newline front) ≡ false → cond t ([] ∷ line_pieces (front ++ 10 ∷ more)) (onto_first x (line_pieces (front ++ 10 ∷ more))) ≡ (x ∷ front) ∷ line_pieces more) [
      | true ↦ λ h. cc
      | false ↦ λ h. ap (onto_first x) (pieces_of-line front more h)
    ] p

-- the first piece begins with these bytes
pub record BeginsWith (front : List ℕ) (pieces : List (List ℕ)) : Type 0 where
  pub tail : List ℕ
  pub others : List (List ℕ)
  pub is : pieces ≡ (front ++ tail) ∷ others

begins-onto_first : (x : ℕ) (pieces : List (List ℕ)) → BeginsWith (x ∷ []) (onto_first x pieces)
begins-onto_first x [] = record { tail = []; others = []; is = refl }
begins-onto_first x (l ∷ ls) = record { tail = l; others = ls; is = refl }

-- bytes with no newline are the front of the first piece
pub pieces_of-first : (x : ℕ) (front more : List ℕ) → has_newline (x ∷ front) ≡ false → BeginsWith (x ∷ front) (line_pieces (x ∷ front ++ more))
pieces_of-first x [] more p =
    elim (x == 10) as (λ t. (t || false) ≡ false → BeginsWith (x ∷ []) (cond t ([] ∷ line_pieces more) (onto_first x (line_pieces more)))) [
      | true ↦ λ h. absurd (cc)
      | false ↦ λ h. begins-onto_first x (line_pieces more)
    ] p
pieces_of-first x (y ∷ front) more p =
    elim (x == 10) as (λ t. (t || has_newline (y ∷ front)) ≡ false
    → BeginsWith (x ∷ y ∷ front) (cond t ([] ∷ line_pieces (y ∷ front ++ more)) (onto_first x (line_pieces (y ∷ front ++ more))))) [
      | true ↦ λ h. absurd (cc)
      | false ↦ λ h. let rest = pieces_of-first y front more h in record { tail = rest.tail; others = rest.others; is = ap (onto_first x) rest.is }
    ] p

-- what follows the last newline is one piece
pub pieces_of-last : (rest : List ℕ) → has_newline rest ≡ false → 0 < length rest → line_pieces rest ≡ rest ∷ []
pieces_of-last [] p q = absurd (omega arith)
pieces_of-last (x ∷ []) p q =
    elim (x == 10) as (λ t. (t || false) ≡ false → cond t ([] ∷ []) (onto_first x []) ≡ (x ∷ []) ∷ []) [ true ↦ λ h. cc | false ↦ λ h. refl ] p
pieces_of-last (x ∷ y ∷ rest) p q =
    elim (x == 10) as (λ t. (t || has_newline (y ∷ rest)) ≡ false → cond t ([] ∷ line_pieces (y ∷ rest)) (onto_first x (line_pieces (y ∷ rest))) ≡ (x ∷ y ∷ rest) ∷ []) [
      | true ↦ λ h. cc
      | false ↦ λ h. ap (onto_first x) (pieces_of-last (y ∷ rest) h (omega arith))
    ] p

without_return-bounds : (b : Bool) (l : List ℕ) → (length (cond b (take (length l - 1) l) l) ≤ length l) × (length l ≤ length (cond b (take (length l - 1) l) l) + 1)
without_return-bounds true l = (omega (arith, length-take (length l - 1) l), omega (arith, length-take (length l - 1) l))
without_return-bounds false l = (omega arith, omega arith)

-- a carriage return is one byte
bounds : (l : List ℕ) → (length (without_return l) ≤ length l) × (length l ≤ length (without_return l) + 1)
bounds l = without_return-bounds (nat_lt 0 (length l) && (slice_index l (length l - 1) == 13)) l

-- a line that is too long stays too long
is_too_long-append : (l more : List ℕ) → is_too_long l ≡ true → is_too_long (l ++ more) ≡ true
is_too_long-append l [] p = rw (append-nil l) p
is_too_long-append l (x ∷ more) p =
    let long = ltb-true _ _ p in
    let lower = (bounds (l ++ x ∷ more)).1 in
    let upper = (bounds l).0 in
    let e = length-append l (x ∷ more) in
    lt-ltb _ _ (omega arith)

-- a line that is too long ends the lines with a refusal that has its number
numbered-long : (n : ℕ) (l : List ℕ) (ls : List (List ℕ)) → is_too_long l ≡ true → lines_from n (l ∷ ls) ≡ record { lines = []; fault = Some (Input n LineTooLong) }
numbered-long n l ls p = rw p refl

-- a line within the limit is the next one, and those after it count on
numbered-short : (n : ℕ) (l : List ℕ) (ls : List (List ℕ)) → is_too_long l ≡ false
    → lines_from n (l ∷ ls) ≡ after_lines (record { number = n; bytes = without_return l } ∷ []) (lines_from (n + 1) ls)
numbered-short n l ls p = rw p refl

-- a line that ends
to_come-line_ended : (s : Split) (front more : List ℕ) → s.fault ≡ None → has_newline s.rest ≡ false → has_newline front ≡ false
    → lines_to_come (line_ended s front) more ≡ lines_to_come s (front ++ 10 ∷ more)
to_come-line_ended s front more none whole front_whole =
    let ended = ap line_pieces (sym (append_assoc s.rest front (10 ∷ more))) ∙ pieces_of-line (s.rest ++ front) more (has_newline-append s.rest front whole front_whole) in
    elim (cases_Bool (is_too_long (s.rest ++ front))) [
      | inl long ↦ rw (none, ended, numbered-long s.number (s.rest ++ front) (line_pieces more) long, long, append-nil) refl
      | inr short ↦ rw (none, ended, numbered-short s.number (s.rest ++ front) (line_pieces more) short, short, append_assoc) refl
    ]

-- the last line, which no newline ends
to_come-last : (s : Split) → s.fault ≡ None → has_newline s.rest ≡ false → 0 < length s.rest
    → lines_to_come (line_ended s []) [] ≡ lines_to_come s []
to_come-last s none whole some =
    let last = pieces_of-last s.rest whole some in
    elim (cases_Bool (is_too_long s.rest)) [
      | inl long ↦ rw (append-nil, none, last, numbered-long s.number s.rest [] long, long, append-nil) refl
      | inr short ↦ rw (append-nil, none, last, numbered-short s.number s.rest [] short, short, append-nil) refl
    ]

-- a line that has begun and is too long is refused, whatever follows
to_come-long : (s : Split) (more : List ℕ) → has_newline s.rest ≡ false → is_too_long s.rest ≡ true
    → lines_from s.number (line_pieces (s.rest ++ more)) ≡ record { lines = []; fault = Some (Input s.number LineTooLong) }
to_come-long s more whole long =
    elim s.rest as (λ rest. has_newline rest ≡ false → is_too_long rest ≡ true
    → lines_from s.number (line_pieces (rest ++ more)) ≡ record { lines = []; fault = Some (Input s.number LineTooLong) }) [
      | [] ↦ λ h l. absurd (let e : 4194304 < 0 = ltb-true _ _ l in omega arith)
      | x ∷ front ↦ λ h l.
          let first = pieces_of-first x front more h in
          rw (first.is, numbered-long s.number (x ∷ front ++ first.tail) first.others (is_too_long-append (x ∷ front) first.tail l)) refl
    ] whole long

-- the front of a line
pub to_come-line_begun : (s : Split) (front more : List ℕ) → s.fault ≡ None → has_newline s.rest ≡ false → has_newline front ≡ false
    → lines_to_come (line_begun s front) more ≡ lines_to_come s (front ++ more)
to_come-line_begun s front more none whole front_whole =
    elim (cases_Bool (is_too_long (s.rest ++ front))) [
      | inl long ↦
          let refused = to_come-long (record s { rest = s.rest ++ front }) more (has_newline-append s.rest front whole front_whole) long in
          rw (none, long, ← append_assoc, refused) refl
      | inr short ↦ rw (none, short, append_assoc) refl
    ]

-- one more line of a piece
pub to_come-next : (s t : Split) (left front others more : List ℕ) → s.fault ≡ None → has_newline s.rest ≡ false → has_newline front ≡ false
    → left ≡ front ++ 10 ∷ others → t ≡ line_ended s front → lines_to_come t (others ++ more) ≡ lines_to_come s (left ++ more)
to_come-next s t left front others more none whole front_whole cut ended =
    rw (cut, ended, append_assoc) (to_come-line_ended s front (others ++ more) none whole front_whole)

-- no line has begun, and none was refused
pub is-at_line : (s : Split) → s.rest ≡ [] → s.fault ≡ None → s ≡ at_line s.waiting s.number
is-at_line s empty none =
    ap (λ (rest : List ℕ). let t : Split = record s { rest = rest } in t) empty
    ∙ ap (λ (fault : Option ReadFault). let t : Split = record { waiting = s.waiting; number = s.number; rest = []; fault = fault } in t) none

-- one more line, where none had begun
pub come-next : (lines : List Line) (n : ℕ) (left front others more : List ℕ) (line : Line) → has_newline front ≡ false → left ≡ front ++ 10 ∷ others → Ok line ≡ line_at n front
    → lines_to_come (at_line (lines ++ line ∷ []) (n + 1)) (others ++ more) ≡ lines_to_come (at_line lines n) (left ++ more)
come-next lines n left front others more line whole cut is =
    to_come-next (at_line lines n) (at_line (lines ++ line ∷ []) (n + 1)) left front others more refl refl whole cut (ap (splitter_with_line (at_line lines n)) is)

-- or its refusal
pub come-refused : (lines : List Line) (n : ℕ) (left front others more : List ℕ) (f : ReadFault) → has_newline front ≡ false → left ≡ front ++ 10 ∷ others → Err f ≡ line_at n front
    → lines_to_come (at_line lines n) (left ++ more) ≡ record { lines = lines; fault = Some f }
come-refused lines n left front others more f whole cut is =
    let t = splitter_with_line (at_line lines n) (Err f) in
    sym (to_come-next (at_line lines n) t left front others more refl refl whole cut (ap (splitter_with_line (at_line lines n)) is))
    ∙ ap (λ (ls : List Line). let them : Lines = record { lines = ls; fault = Some f } in them) (append-nil lines)

-- once a line has ended, or was refused, no part of a line is kept
rest-is : (s : Split) (front : List ℕ) → (line_ended s front).rest ≡ []
rest-is s front = elim (line_at s.number (s.rest ++ front)) as (λ r. (splitter_with_line s r).rest ≡ []) [ Ok line ↦ refl | Err f ↦ refl ]

-- a result that is fine comes from a splitter that has refused nothing
pub none_of : (o : Option ReadFault) → Ok tt ≡ result_of o → o ≡ None
none_of None e = refl
none_of (Some f) e = cc

-- a fault that is given is the one that the splitter has
pub some_of : (o : Option ReadFault) (f : ReadFault) → Err f ≡ result_of o → o ≡ Some f
some_of None f e = cc
some_of (Some g) f e = cc

-- after a refusal the rest of the text says nothing
pub to_come-refused : (t : Split) (f : ReadFault) (a b : List ℕ) → t.fault ≡ Some f → lines_to_come t a ≡ lines_to_come t b
to_come-refused t f a b e = rw e refl

-- at the end of the input, with no line begun, the lines that wait are all
to_come-empty : (t : Split) → t.fault ≡ None → t.rest ≡ [] → lines_to_come t [] ≡ record { lines = t.waiting; fault = None }
to_come-empty t none empty = rw (none, empty, append-nil) refl

-- the last line wasn't refused
pub to_come-ended : (s t : Split) (ls : List Line) → s.fault ≡ None → has_newline s.rest ≡ false → 0 < length s.rest → t ≡ line_ended s []
    → Ok tt ≡ result_of t.fault → ls ≡ t.waiting → lines_to_come s [] ≡ record { lines = ls; fault = None }
to_come-ended s t ls none whole some ended going e =
    let t_rest : t.rest ≡ [] = rw ended (rest-is s []) in
    sym (to_come-last s none whole some) ∙ rw (← ended, e) (to_come-empty t (none_of t.fault going) t_rest)

pub above_zero : (n : ℕ) → false ≡ (n == 0) → 0 < n
above_zero zero e = cc
above_zero (suc n) e = omega arith

-- a text is what stands before a newline, the newline, and what follows it
pub cut_at : (text : List ℕ) (i : ℕ) → i < length text → (slice_index text i == 10) ≡ true
    → text ≡ take i text ++ 10 ∷ take (length text - (i + 1)) (drop (i + 1) text)
cut_at text i h e =
    let is : slice_index text i ≡ 10 = eqb-true _ _ e in
    rw (take_rest text (i + 1)) (sym (take-append-drop i text) ∙ rw (drop-cons text i 0 h, is, add-one) refl)
