-- The lines of runs, read piece after piece.
use Rattle.std.proofs.Common.{◌≡◌, ℕ, ◌+◌, ◌-◌, ◌^◌, ◌<◌, ◌≤◌, ◌==◌, ◌&&◌, ◌||◌, ◌⊎◌, inl, inr, nat_lt, nat_le, List, [], ◌∷◌, ◌++◌, length, take, drop, get_or, slice_get, slice_index, Bool, true, false, cond, Option, Some, Result, Ok, Err, OnOk, refl, sym, ap, ◌∙◌, subst, arith, append_assoc, append-nil, length-append}
use Rattle.std.specs.List.{AllByRecursion}
use Rattle.std.specs.Option.{option_map}
use Rattle.std.proofs.lemmas.Bool.{both_ways, cases_Bool, eqb-false, eqb-true, leb-false}
use Rattle.std.proofs.lemmas.Option.{same_Some}
use Rattle.std.proofs.lemmas.List.{drop-drop, take-take, take_all}
use Rattle.std.proofs.Math.ListN.{length-take}
use Rattle.std.proofs.Math.Seq.{take-add}
use Rattle.aud_tap.specs.Limits.{max_line}
use Rattle.aud_node.specs.Lists.{is_empty}
use Rattle.aud_reader.specs.declared.line.Line.{Line}
use Rattle.aud_reader.specs.Lines.{has_newline, line_pieces, without_return}
use Rattle.aud_reader.proofs.LinesLemmas.{pieces_of-first, pieces_of-last, pieces_of-line}
use Rattle.aud_parts.specs.declared.tap_index.tap_runs.Run.{Run}
use Rattle.aud_parts.specs.TapRuns.{BeginsWithBytes, IsReadable, line_with_bytes, lines_with_bytes, run_bytes, run_lines, runs_lines}
use Rattle.aud_parts.specs.Private.RunSteps.{EndsLine, GivesLines, HasFirstText, IsFirstText, front_run}
use Rattle.aud_parts.proofs.ListSteps.{all-parts}
use Rattle.aud_parts.proofs.PieceLemmas.{cut-text, all_ended-push, lines-append, pieces-ended, pieces-few, whole-push}
use Rattle.aud_parts.specs.IndexSoFar.{all_ended}

-- two clauses of a call that went well
pub on_ok-both : {T E P Q R : Type 0} (r : Result T E) → (P → Q → R) → OnOk r P → OnOk r Q → OnOk r R
on_ok-both (Ok x) f p q = f p q
on_ok-both (Err e) f p q = tt

-- ---- whole lines

-- what ends with a newline, and what follows it
pub pieces-cut : (front more : List ℕ) → line_pieces ((front ++ 10 ∷ []) ++ more) ≡ line_pieces (front ++ 10 ∷ []) ++ line_pieces more
pieces-cut front more =
    let c = cut-text front in
    let lines = c.lines ++ c.last ∷ [] in
    let whole = whole-push c.lines c.last c.whole c.unended in
    let are : front ++ 10 ∷ [] ≡ all_ended lines =
    ap (λ t. t ++ 10 ∷ []) c.is ∙ append_assoc (all_ended c.lines) c.last (10 ∷ []) ∙ sym (all_ended-push c.lines c.last) in
    let own : line_pieces (front ++ 10 ∷ []) ≡ lines =
    ap line_pieces (are ∙ sym (append-nil (all_ended lines))) ∙ pieces-ended lines [] whole ∙ append-nil lines in
    ap (λ t. line_pieces (t ++ more)) are ∙ pieces-ended lines more whole ∙ ap (λ l. l ++ line_pieces more) (sym own)

-- nothing follows, or the first bytes end with a newline
abbrev Parts : List ℕ → List ℕ → Type 0
Parts front rest = (rest ≡ []) ⊎ ((text : List ℕ) × (front ≡ text ++ 10 ∷ []))

lines-joined : (n : ℕ) (front rest : List ℕ) → Parts front rest
    → lines_with_bytes n (line_pieces (front ++ rest)) ≡ lines_with_bytes n (line_pieces front) ++ lines_with_bytes (n + length (line_pieces front)) (line_pieces rest)
lines-joined n front rest (inl none) =
    ap (λ r. lines_with_bytes n (line_pieces (front ++ r))) none
    ∙ ap (λ t. lines_with_bytes n (line_pieces t)) (append-nil front)
    ∙ sym (append-nil (lines_with_bytes n (line_pieces front)))
    ∙ ap (λ r. lines_with_bytes n (line_pieces front) ++ lines_with_bytes (n + length (line_pieces front)) (line_pieces r)) (sym none)
lines-joined n front rest (inr (text, ends)) =
    ap (λ t. lines_with_bytes n (line_pieces (t ++ rest))) ends
    ∙ ap (lines_with_bytes n) (pieces-cut text rest ∙ ap (λ t. line_pieces t ++ line_pieces rest) (sym ends))
    ∙ lines-append n (line_pieces front) (line_pieces rest)

-- ---- lines that are too long

return-bounds : (b : Bool) (l : List ℕ) → length l ≤ length (cond b (take (length l - 1) l) l) + 1
return-bounds true l = omega (arith, length-take (length l - 1) l)
return-bounds false l = omega arith

abbrev IsShort : Line → Type 0
IsShort line = length line.bytes ≤ max_line

none-long : (n : ℕ) (text : List ℕ) (more : List Line) → 4194304 < length text
    → AllByRecursion IsShort (cond (is_empty text) [] (record { number = n; bytes = text } ∷ []) ++ more) → ⊥
none-long n [] more long all = omega arith
none-long n (b ∷ text) more long all = let short : length (b ∷ text) ≤ 4194304 = all.0 in omega (arith, long, short)

-- bytes without a newline that are more than a line may have
long-line : (n : ℕ) (bytes more : List ℕ) → has_newline bytes ≡ false → 8388608 ≤ length bytes
    → AllByRecursion IsShort (lines_with_bytes n (line_pieces (bytes ++ more))) → ⊥
long-line n [] more whole long all = omega arith
long-line n (b ∷ bytes) more whole long all =
    let first = pieces_of-first b bytes more whole in
    let text = b ∷ bytes ++ first.tail in
    let size = length-append (b ∷ bytes) first.tail in
    let bound = return-bounds (nat_lt 0 (length text) && (slice_index text (length text - 1) == 13)) text in
    none-long n (without_return text) (lines_with_bytes (n + 1) first.others) (omega (arith, long, size, bound))
    (subst (λ ps. AllByRecursion IsShort (lines_with_bytes n ps)) first.is all)

-- ---- the front of a run

-- the run up to so many bytes: all of it, or so many
pub record Fronts (most : ℕ) (run front : Run) : Type 0 where
  pub file : front.file ≡ run.file
  pub from : front.from ≡ run.from
  pub within : front.to - run.from ≤ run.to - run.from
  pub size : (front ≡ run) ⊎ (front.to ≡ run.from + most)

pub fronts : (most : ℕ) (run : Run) → Fronts most run (front_run most run)
fronts most run = go (cases_Bool (nat_le (run.to - run.from) most))
  where
    go : (nat_le (run.to - run.from) most ≡ true) ⊎ (nat_le (run.to - run.from) most ≡ false) → Fronts most run (front_run most run)
    go (inl e) = subst (Fronts most run) (sym (ap (λ b. cond b run (record run { to = run.from + most })) e)) (record { file = refl; from = refl; within = omega arith; size = inl refl })
    go (inr e) =
        let more : most < run.to - run.from = leb-false _ _ e in
        subst (Fronts most run) (sym (ap (λ b. cond b run (record run { to = run.from + most })) e)) (record { file = refl; from = refl; within = omega (arith, more); size = inr refl })

-- a run is cut
cut-run : (files : List (List ℕ)) (run : Run) (end : ℕ) → end ≤ run.to - run.from
    → run_bytes files run ≡ take end (drop run.from (get_or files run.file [])) ++ run_bytes files (record run { from = run.from + end })
cut-run files run end within =
    let all = get_or files run.file [] in
    let e : run.to - run.from ≡ end + (run.to - (run.from + end)) = omega arith in
    ap (λ n. take n (drop run.from all)) e
    ∙ take-add end (run.to - (run.from + end)) (drop run.from all)
    ∙ ap (λ l. take end (drop run.from all) ++ take (run.to - (run.from + end)) l) (drop-drop end run.from all)

front-bytes : (files : List (List ℕ)) (most : ℕ) (run front : Run) (bytes : List ℕ) (end : ℕ) → Fronts most run front → bytes ≡ run_bytes files front
    → end ≤ front.to - run.from → take end bytes ≡ take end (drop run.from (get_or files run.file []))
front-bytes files most run front bytes end f are within =
    ap (take end) (are ∙ ap (λ k. take (front.to - k) (drop k (get_or files front.file []))) f.from ∙ ap (λ k. take (front.to - run.from) (drop run.from (get_or files k []))) f.file)
    ∙ take-take end (front.to - run.from) (drop run.from (get_or files run.file [])) within

-- the first bytes of a run, and those after them
split-run : (files : List (List ℕ)) (most : ℕ) (run front : Run) (bytes : List ℕ) (end : ℕ) → Fronts most run front → bytes ≡ run_bytes files front
    → end ≤ front.to - run.from → run_bytes files run ≡ take end bytes ++ run_bytes files (record run { from = run.from + end })
split-run files most run front bytes end f are within =
    cut-run files run end (omega (arith, within, f.within))
    ∙ ap (λ l. l ++ run_bytes files (record run { from = run.from + end })) (sym (front-bytes files most run front bytes end f are within))

-- ---- what is left of a run

abbrev left_of : Run → ℕ → ℕ → Run
left_of run from number = record run { from = from; number = number }

pub record Goes (files : List (List ℕ)) (run : Run) (lines : List Line) (left : Run) : Type 0 where
  pub same : run_lines files run ≡ lines ++ run_lines files left
  pub readable : IsReadable files left

goes : (files : List (List ℕ)) (run : Run) (front rest : List ℕ) (from number : ℕ) → run_bytes files run ≡ front ++ rest → rest ≡ run_bytes files (left_of run from number)
    → Parts front rest → number ≡ run.number + length (line_pieces front) → IsReadable files run
    → Goes files run (lines_with_bytes run.number (line_pieces front)) (left_of run from number)
goes files run front rest from number cut is parts counts r = record {
  same = same;
  readable = record {
    counted =
        let few = pieces-few front in
        let size = ap length cut ∙ length-append front rest in
        let own = ap length is in
        let counted = r.counted in
        omega (arith, few, size, own, counts, counted);
    short = (all-parts IsShort (lines_with_bytes run.number (line_pieces front)) (run_lines files (left_of run from number)) (subst (AllByRecursion IsShort) same r.short)).1;
  };
}
  where
    same : run_lines files run ≡ lines_with_bytes run.number (line_pieces front) ++ run_lines files (left_of run from number)
    same =
        ap (λ l. lines_with_bytes run.number (line_pieces l)) cut
        ∙ lines-joined run.number front rest parts
        ∙ ap (λ l. lines_with_bytes run.number (line_pieces front) ++ lines_with_bytes (run.number + length (line_pieces front)) (line_pieces l)) is
        ∙ ap (λ k. lines_with_bytes run.number (line_pieces front) ++ lines_with_bytes k (line_pieces (run_bytes files (left_of run from number)))) (sym counts)

-- what was read of a run: these bytes of its front, of which so many are whole lines
pub record FrontRead (files : List (List ℕ)) (run front : Run) (bytes : List ℕ) (end : ℕ) : Type 0 where
  pub front_is : front ≡ front_run 8388608 run
  pub bytes_are : bytes ≡ run_bytes files front
  pub size : length bytes ≡ front.to - front.from
  pub within : end ≤ length bytes
  pub last : (front.to == run.to) ≡ true → end ≡ length bytes
  pub cut : (front.to == run.to) ≡ false → EndsLine bytes end

fronts-of : (files : List (List ℕ)) (run front : Run) (bytes : List ℕ) (end : ℕ) → FrontRead files run front bytes end → Fronts 8388608 run front
fronts-of files run front bytes end f = subst (Fronts 8388608 run) (sym f.front_is) (fronts 8388608 run)

-- the numbers of its lines stay below 2 to the 64th
pub counted-front : (files : List (List ℕ)) (run front : Run) (bytes : List ℕ) (end : ℕ) → FrontRead files run front bytes end → IsReadable files run
    → run.number + length (take end bytes) < 2 ^ 64
counted-front files run front bytes end f r =
    let g = fronts-of files run front bytes end f in
    let from_is = g.from in
    let size = f.size in
    let within = f.within in
    let bound : end ≤ front.to - run.from = omega (arith, within, size, from_is) in
    let rest = run_bytes files (record run { from = run.from + end }) in
    let all = ap length (split-run files 8388608 run front bytes end g f.bytes_are bound) ∙ length-append (take end bytes) rest in
    let counted = r.counted in
    omega (arith, all, counted)

pub goes-front : (files : List (List ℕ)) (run front : Run) (bytes : List ℕ) (end from number : ℕ) → FrontRead files run front bytes end → from ≡ run.from + end
    → number ≡ run.number + length (line_pieces (take end bytes)) → IsReadable files run
    → Goes files run (lines_with_bytes run.number (line_pieces (take end bytes))) (left_of run from number)
goes-front files run front bytes end from number f at counts r =
    goes files run (take end bytes) (run_bytes files (record run { from = run.from + end })) from number
    (split-run files 8388608 run front bytes end g f.bytes_are bound)
    (ap (λ k. run_bytes files (record run { from = k })) (sym at))
    (parts (cases_Bool (front.to == run.to))) counts r
  where
    g : Fronts 8388608 run front
    g = fronts-of files run front bytes end f

    bound : end ≤ front.to - run.from
    bound = let within = f.within in let size = f.size in let from_is = g.from in omega (arith, within, size, from_is)

    parts : ((front.to == run.to) ≡ true) ⊎ ((front.to == run.to) ≡ false) → Parts (take end bytes) (run_bytes files (record run { from = run.from + end }))
    parts (inl e) =
        let to_is = eqb-true front.to run.to e in
        let all = f.last e in
        let size = f.size in
        let from_is = g.from in
        let none : run.to - (run.from + end) ≡ 0 = omega (arith, all, size, from_is, to_is) in
        inl (ap (λ k. take k (drop (run.from + end) (get_or files run.file []))) none)
    parts (inr e) = ends (f.cut e)
      where
        size_is : (front ≡ run) ⊎ (front.to ≡ run.from + 8388608) → has_newline bytes ≡ false → ⊥
        size_is (inl same) whole = eqb-false front.to run.to e (ap (λ (x : Run). x.to) same)
        size_is (inr most) whole =
            let size = f.size in
            let from_is = g.from in
            let many : 8388608 ≤ length bytes = omega (arith, size, most, from_is) in
            let full : length bytes ≤ front.to - run.from = omega (arith, size, from_is) in
            let all = split-run files 8388608 run front bytes (length bytes) g f.bytes_are full in
            long-line run.number bytes (run_bytes files (record run { from = run.from + length bytes })) whole many
            (subst (λ l. AllByRecursion IsShort (lines_with_bytes run.number (line_pieces l)))
            (all ∙ ap (λ l. l ++ run_bytes files (record run { from = run.from + length bytes })) (take_all (length bytes) bytes (omega arith))) r.short)

        ends : EndsLine bytes end → Parts (take end bytes) (run_bytes files (record run { from = run.from + end }))
        ends (inl cut) = inr cut
        ends (inr whole) = absurd (size_is g.size whole)

-- the lines of a run that were read, and the run that is left
pub gives-some : (files : List (List ℕ)) (run left : Run) (lines : List Line) → Goes files run lines left → GivesLines files (run ∷ []) lines (left ∷ [])
gives-some files run left lines g = record {
  same = ap (λ ls. ls ++ []) g.same ∙ append_assoc lines (run_lines files left) [];
  readable = (g.readable, tt);
}

-- all of it was read
pub gives-none : (files : List (List ℕ)) (run : Run) (from number : ℕ) (lines : List Line) → run.to ≤ from → Goes files run lines (left_of run from number) → GivesLines files (run ∷ []) lines []
gives-none files run from number lines past g =
    let none : run.to - from ≡ 0 = omega arith in
    record {
      same = ap (λ ls. ls ++ []) (g.same ∙ ap (λ k. lines ++ lines_with_bytes number (line_pieces (take k (drop from (get_or files run.file []))))) none ∙ append-nil lines);
      readable = tt;
    }

-- ---- the first line

newline-in : (text more : List ℕ) → has_newline (text ++ 10 ∷ more) ≡ true
newline-in [] more = refl
newline-in (b ∷ text) more = elim (b == 10) as (λ t. (t || has_newline (text ++ 10 ∷ more)) ≡ true) [ true ↦ refl | false ↦ newline-in text more ]

-- the front of a run tells its first text, if it has a newline, is all of it, or is longer than a line may be
pub first-front : (files : List (List ℕ)) (most : ℕ) (run front : Run) (bytes : List ℕ) → front ≡ front_run most run → bytes ≡ run_bytes files front → length bytes ≡ front.to - front.from
    → ((front.to ≡ run.to) ⊎ ((has_newline bytes ≡ true) ⊎ (8388608 ≤ most))) → IsReadable files run → HasFirstText (run_bytes files run) bytes
first-front files most run front bytes front_is are size why r = λ text t. first text t.cut t.whole
  where
    g : Fronts most run front
    g = subst (Fronts most run) (sym front_is) (fronts most run)

    all : run_bytes files run ≡ bytes ++ run_bytes files (record run { from = run.from + length bytes })
    all =
        let from_is = g.from in
        let full : length bytes ≤ front.to - run.from = omega (arith, size, from_is) in
        split-run files most run front bytes (length bytes) g are full
        ∙ ap (λ l. l ++ run_bytes files (record run { from = run.from + length bytes })) (take_all (length bytes) bytes (omega arith))

    -- nothing stands behind it
    last : front.to ≡ run.to → run_bytes files run ≡ bytes
    last to_is =
        let from_is = g.from in
        let none : run.to - (run.from + length bytes) ≡ 0 = omega (arith, size, from_is, to_is) in
        all ∙ ap (λ k. bytes ++ take k (drop (run.from + length bytes) (get_or files run.file []))) none ∙ append-nil bytes

    wrong : (has_newline bytes ≡ true) ⊎ (8388608 ≤ most) → (front ≡ run) ⊎ (front.to ≡ run.from + most) → has_newline bytes ≡ false → run_bytes files run ≡ bytes
    wrong (inl some) by whole = absurd (both_ways (has_newline bytes) whole some)
    wrong (inr long) (inl same) whole = last (ap (λ (x : Run). x.to) same)
    wrong (inr long) (inr to_is) whole =
        let from_is = g.from in
        let many : 8388608 ≤ length bytes = omega (arith, size, from_is, to_is, long) in
        absurd (long-line run.number bytes (run_bytes files (record run { from = run.from + length bytes })) whole many
        (subst (λ l. AllByRecursion IsShort (lines_with_bytes run.number (line_pieces l))) all r.short))

    ended : (front.to ≡ run.to) ⊎ ((has_newline bytes ≡ true) ⊎ (8388608 ≤ most)) → has_newline bytes ≡ false → run_bytes files run ≡ bytes
    ended (inl to_is) whole = last to_is
    ended (inr other) whole = wrong other g.size whole

    first : (text : List ℕ) → ((others : List ℕ) × (bytes ≡ text ++ 10 ∷ others)) ⊎ (bytes ≡ text) → has_newline text ≡ false → IsFirstText (run_bytes files run) text
    first text (inl (others, cut)) whole = record {
      whole = whole;
      cut = inl (others ++ run_bytes files (record run { from = run.from + length bytes }), all ∙ ap (λ l. l ++ run_bytes files (record run { from = run.from + length bytes })) cut ∙ append_assoc text (10 ∷ others) (run_bytes files (record run { from = run.from + length bytes })));
    }
    first text (inr cut) whole = record { whole = whole; cut = inr (ended why (ap has_newline cut ∙ whole) ∙ cut) }

-- a newline was found
pub found-newline : (bytes text others : List ℕ) → bytes ≡ text ++ 10 ∷ others → has_newline bytes ≡ true
found-newline bytes text others cut = ap has_newline cut ∙ newline-in text others

-- lines count from the number on
numbers-from : (n k : ℕ) (texts : List (List ℕ)) → option_map (λ (line : Line). line.number) (slice_get (lines_with_bytes n texts) 0) ≡ Some k → n ≤ k
numbers-from n k [] e = cc
numbers-from n k (text ∷ texts) e = go (is_empty (without_return text)) (numbers-from (n + 1) k texts) e
  where
    go : (b : Bool) → (option_map (λ (line : Line). line.number) (slice_get (lines_with_bytes (n + 1) texts) 0) ≡ Some k → n + 1 ≤ k)
        → option_map (λ (line : Line). line.number) (slice_get (cond b [] (record { number = n; bytes = without_return text } ∷ []) ++ lines_with_bytes (n + 1) texts) 0) ≡ Some k → n ≤ k
    go true later e = let past = later e in omega (arith, past)
    go false later e = let same : n ≡ k = same_Some n k e in omega (arith, same)

-- the lines begin with the first text
first-lines : (n : ℕ) (all text : List ℕ) → IsFirstText all text → (more : List (List ℕ)) × (lines_with_bytes n (line_pieces all) ≡ line_with_bytes n text ++ lines_with_bytes (n + 1) more)
first-lines n all text t = go text t.cut t.whole
  where
    go : (text : List ℕ) → ((others : List ℕ) × (all ≡ text ++ 10 ∷ others)) ⊎ (all ≡ text) → has_newline text ≡ false
        → (more : List (List ℕ)) × (lines_with_bytes n (line_pieces all) ≡ line_with_bytes n text ++ lines_with_bytes (n + 1) more)
    go text (inl (others, cut)) whole = (line_pieces others, ap (λ l. lines_with_bytes n (line_pieces l)) cut ∙ ap (lines_with_bytes n) (pieces_of-line text others whole))
    go [] (inr cut) whole = ([], ap (λ l. lines_with_bytes n (line_pieces l)) cut)
    go (b ∷ text) (inr cut) whole =
        ([], ap (λ l. lines_with_bytes n (line_pieces l)) cut ∙ ap (lines_with_bytes n) (pieces_of-last (b ∷ text) whole (omega arith)))

-- no line, or the one of this number and text
abbrev either : ℕ → List ℕ → Bool → List Line
either n text b = cond b [] (record { number = n; bytes = without_return text } ∷ [])

-- the line that was read is the first of the runs
pub first-of-runs : (files : List (List ℕ)) (run : Run) (runs : List Run) (text : List ℕ) (lines : List Line) (popped : Option Line) → IsFirstText (run_bytes files run) text
    → BeginsWithBytes files run → lines ≡ line_with_bytes run.number text → ((d : Line) → 0 < length lines → popped ≡ Some (get_or lines (length lines - 1) d))
    → popped ≡ slice_get (runs_lines files (run ∷ runs)) 0
first-of-runs files run runs text lines popped t begins put pop =
    let begun = first-lines run.number (run_bytes files run) text t in
    go (is_empty (without_return text)) begun.0 begun.1 put
  where
    go : (b : Bool) (more : List (List ℕ)) → run_lines files run ≡ either run.number text b ++ lines_with_bytes (run.number + 1) more → lines ≡ either run.number text b
        → popped ≡ slice_get (runs_lines files (run ∷ runs)) 0
    go true more e put =
        let later = numbers-from (run.number + 1) run.number more (ap (λ ls. option_map (λ (line : Line). line.number) (slice_get ls 0)) (sym e) ∙ begins) in
        absurd (omega (arith, later))
    go false more e put =
        let some : 0 < length lines = let size = ap length put in omega (arith, size) in
        let line : Line = record { number = run.number; bytes = without_return text } in
        pop line some
        ∙ ap (λ ls. Some (get_or ls (length ls - 1) line)) put
        ∙ ap (λ ls. slice_get (ls ++ runs_lines files runs) 0) (sym e)

-- so it is of all runs
pub first-of-all : (files : List (List ℕ)) (runs : List Run) (run : Run) (text : List ℕ) (lines : List Line) (popped : Option Line) → slice_get runs 0 ≡ Some run
    → AllByRecursion (IsReadable files) runs → AllByRecursion (BeginsWithBytes files) runs → (IsReadable files run → IsFirstText (run_bytes files run) text)
    → lines ≡ line_with_bytes run.number text → ((d : Line) → 0 < length lines → popped ≡ Some (get_or lines (length lines - 1) d)) → popped ≡ slice_get (runs_lines files runs) 0
first-of-all files [] run text lines popped at readable begun read put pop = cc
first-of-all files (r ∷ rs) run text lines popped at readable begun read put pop =
    let is : r ≡ run = same_Some r run at in
    subst (λ (x : Run). popped ≡ slice_get (runs_lines files (x ∷ rs)) 0) (sym is)
    (first-of-runs files run rs text lines popped (read (subst (IsReadable files) is readable.0)) (subst (BeginsWithBytes files) is begun.0) put pop)
