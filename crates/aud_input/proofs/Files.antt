-- Files that are taken in, one after the other.
use Rattle.std.proofs.Common.{◌≡◌, ℕ, ◌+◌, ◌-◌, ◌<◌, ◌≤◌, nat_le, nat_lt, add-zero, drop, get_or, take, List, [], ◌∷◌, ◌++◌, length, map, Bool, true, false, cond, Option, Some, None, is_none, inl, inr, refl, sym, ap, ◌∙◌, append_assoc, append-nil, arith, subst, IfSome, IfOk, IfErr, Result, Ok, Err}
use Rattle.std.specs.Prelude.{slice_get}
use Rattle.std.specs.List.{flat_map, sum_by}
use Rattle.std.proofs.lemmas.Bool.{cases_Bool, le-leb, leb-false, ltb-true}
use Rattle.std.proofs.lemmas.List.{drop-drop, drop-set-lt, get_or-drop, length-map, map-append, map_more, take-map}
use Rattle.std.proofs.lemmas.List.Sums.{sum_by-append, sum_by-cons}
use Rattle.std.proofs.Math.ListN.{set}
use Rattle.std.proofs.Math.Seq.{take-length}
use Rattle.std.proofs.lemmas.List.Concat.{flat_map-append}
use Rattle.std.specs.Result.{IsErrAnd}
use Rattle.std.proofs.lemmas.Option.{none-some, same_Some}
use Rattle.std.proofs.lemmas.Result.{err_from_is_err_and}
use Rattle.aud_base.specs.declared.watched.Watched.{Watched}
use Rattle.aud_base.specs.Watched.{inner_of}
use Rattle.aud_tap.specs.declared.taps.Tap.{Tap}
use Rattle.aud_reader.specs.declared.fault.InputCode.{InputCode}
use Rattle.aud_reader.specs.declared.fault.ReadFault.{ReadFault}
use Rattle.aud_reader.specs.declared.fault.ReadFault.TheVariants.{Input}
use Rattle.aud_reader.specs.declared.fault.ReadFault.TheVariants as kind
use Rattle.aud_reader.specs.Lines.{Lines, line_pieces, lines_from, lines_to_come}
use Rattle.aud_input.specs.declared.input.Layout.TheVariants.{Bundle}
use Rattle.aud_input.specs.Input.{InputSeen, input_of, parts_of, unless_cut}
use Rattle.aud_input.specs.Reader.{HasLines, InputSoFar, input_over, input_to_come, line_numbered, parts_to_come}
use Rattle.aud_reader.specs.Bundle.{unless_refused}
use Rattle.aud_input.specs.TapLines.{lines_noted, named_from, named_in, tap_lines_of, taps_noted, with_lines}
use Rattle.aud_input.specs.Sources.{ended, is_begun, joined}
use Rattle.aud_input.specs.declared.feeding.Feeding.{Feeding}
use Rattle.aud_input.specs.declared.reading.Recorded.{Recorded}
use Rattle.aud_input.specs.declared.reading.Size.{Size}
use Rattle.aud_input.specs.declared.reading.ReadingFault.{ReadingFault}
use Rattle.aud_input.specs.declared.reading.ReadingFault.TheVariants.{Refused, Unread, Memory}
use Rattle.aud_input.specs.declared.refusal.Refusal.{Refusal}
use Rattle.aud_input.specs.FileLine.{after_files, file_line}
use Rattle.aud_input.specs.Files.{AreRecorded, AreTold, AreUnrecorded, IsTold, header_stands, header_told, line_counts, line_told, taps_read}
use Rattle.aud_input.specs.Private.Feeding.{AreCounted, AreReadBefore, AreTaken, EndsFile, IsRead, IsRecordedOf, IsRefusedOf, TakesIn, TellsUnread, counts_after, line_end}
use Rattle.aud_input.proofs.FilesLemmas.{files-lines, pieces-flat}
use Rattle.aud_input.proofs.GivenLemmas.{all-given, begun-append, lines-length, lines_counted, newlines-append, newlines_in, noted-length, noted-newlines, nothing-begun}
use Rattle.aud_input.proofs.RefusedLemmas.{header-told, line-told, refused-within}
use Rattle.aud_input.proofs.StandLemmas.{named-text}
use Rattle.aud_input.proofs.Takes.{stays-more}

-- how many lines each file has
abbrev lines_in : List ℕ → ℕ
lines_in file = length (line_pieces file)

-- ---- the joined bytes

-- a file after others, and what ends it
ended-last : (files : List (List ℕ)) (file more : List ℕ) (begun : Bool) → begun ≡ is_begun false file
    → flat_map (ended false) files ++ (file ++ (line_end begun ++ more)) ≡ flat_map (ended false) (files ++ file ∷ []) ++ more
ended-last files file more begun is =
    let front = flat_map (ended false) files in
    let all : flat_map (ended false) (files ++ file ∷ []) ≡ front ++ (ended false file ++ []) = flat_map-append (ended false) files (file ∷ []) in
    rw (all, is, append-nil (ended false file), append_assoc front (ended false file) more, append_assoc file (line_end (is_begun false file)) more) refl

-- a file whose last line is ended has a newline for each line
newlines-ended : (file : List ℕ) → newlines_in (ended false file) ≡ lines_in file
newlines-ended file =
    newlines-append file (line_end (is_begun false file)) ∙ go (is_begun false file) ∙ sym (lines_counted file)
  where
    go : (b : Bool) → newlines_in file + newlines_in (line_end b) ≡ newlines_in file + cond b 1 0
    go true = refl
    go false = refl

-- no line has begun after bytes whose last line is ended
begun-ended : (file : List ℕ) → is_begun false (ended false file) ≡ false
begun-ended file = begun-append false file (line_end (is_begun false file)) ∙ go (is_begun false file)
  where
    go : (b : Bool) → is_begun b (line_end b) ≡ false
    go true = refl
    go false = refl

begun-files : (files : List (List ℕ)) → is_begun false (flat_map (ended false) files) ≡ false
begun-files [] = refl
begun-files (file ∷ files) =
    begun-append false (ended false file) (flat_map (ended false) files) ∙ ap (λ b. is_begun b (flat_map (ended false) files)) (begun-ended file) ∙ begun-files files

newlines-last : (files : List (List ℕ)) (file : List ℕ) → newlines_in (flat_map (ended false) (files ++ file ∷ [])) ≡ newlines_in (flat_map (ended false) files) + lines_in file
newlines-last files file =
    ap newlines_in (flat_map-append (ended false) files (file ∷ []) ∙ ap (λ rest. flat_map (ended false) files ++ rest) (append-nil (ended false file)))
    ∙ newlines-append (flat_map (ended false) files) (ended false file) ∙ ap (λ n. newlines_in (flat_map (ended false) files) + n) (newlines-ended file)

-- the lines of files each of which is ended are those of the joined files
pieces-joined : (files : List (List ℕ)) → line_pieces (flat_map (ended false) files) ≡ line_pieces (joined files)
pieces-joined files = pieces-flat files ∙ sym (files-lines files)

-- ---- the file of a line

-- the counts of the files before a line's file are enough to find it
file_line-front : (counts : List ℕ) (count : ℕ) (later : List ℕ) (n : ℕ) → n ≤ sum_by (λ c. c) counts + count → file_line (counts ++ count ∷ later) n ≡ file_line counts n
file_line-front [] count later n within =
    let sum : sum_by (λ (c : ℕ). c) [] ≡ 0 = refl in
    let short : n ≤ count = omega (arith, within, sum) in
    rw (le-leb n count short) refl
file_line-front (c ∷ counts) count later n within =
    elim (cases_Bool (nat_le n c)) [
      | inl here ↦ rw here refl
      | inr past ↦
          let beyond = leb-false n c past in
          let rest : n - c ≤ sum_by (λ c. c) counts + count = omega (arith, within, beyond, sum_by-cons (λ c. c) c counts) in
          rw past (ap (after_files 1) (file_line-front counts count later (n - c) rest))
    ]

sum-lines : (files : List (List ℕ)) → sum_by (λ c. c) (map lines_in files) ≡ sum_by lines_in files
sum-lines [] = refl
sum-lines (file ∷ files) = sum_by-cons (λ c. c) (lines_in file) (map lines_in files) ∙ ap (λ n. lines_in file + n) (sum-lines files) ∙ sym (sum_by-cons lines_in file files)

newlines-files : (files : List (List ℕ)) → newlines_in (flat_map (ended false) files) ≡ sum_by lines_in files
newlines-files [] = refl
newlines-files (file ∷ files) =
    newlines-append (ended false file) (flat_map (ended false) files) ∙ ap (λ n. newlines_in (ended false file) + n) (newlines-files files)
    ∙ ap (λ n. n + sum_by lines_in files) (newlines-ended file) ∙ sym (sum_by-cons lines_in file files)

-- how many lines all files have
lines-files : (files : List (List ℕ)) → length (line_pieces (flat_map (ended false) files)) ≡ sum_by lines_in files
lines-files files =
    let all : length (line_pieces (flat_map (ended false) files)) ≡ newlines_in (flat_map (ended false) files) + 0 =
    lines_counted (flat_map (ended false) files) ∙ ap (λ b. newlines_in (flat_map (ended false) files) + cond b 1 0) (begun-files files)
    in
    omega (arith, all, newlines-files files)

-- ---- files that are taken in

-- a sum with one more
sum_by-last : (f : List ℕ → ℕ) (files : List (List ℕ)) (file : List ℕ) → sum_by f (files ++ file ∷ []) ≡ sum_by f files + f file
sum_by-last f files file = omega (arith, sum_by-append f files (file ∷ []), sum_by-cons f file [])

-- the lines are counted with one file more
counted-more : (files : List (List ℕ)) (counts : List ℕ) (file : List ℕ) (s u : InputSoFar) (had has : Option ReadFault) → s.fault ≡ had → u.fault ≡ has → IfSome had (λ f. u.fault ≡ Some f)
    → IsRead (flat_map (ended false) files) s → IsRead (flat_map (ended false) (files ++ file ∷ [])) u → AreCounted files counts had
    → AreCounted (files ++ file ∷ []) (cond (is_none has) (counts ++ (lines_noted u.index - lines_noted s.index) ∷ []) counts) has
counted-more files counts file s u (Some f) None was is stays before after counted = absurd (none-some f (sym is ∙ stays))
counted-more files counts file s u (Some f) (Some kind.Memory) was is stays before after counted = tt
counted-more files counts file s u (Some f) (Some (Input n code)) was is stays before after counted = λ later m upto.
    let same : f ≡ Input n code = same_Some f (Input n code) (sym stays ∙ is) in
    let given : AreCounted files counts (Some (Input n code)) = subst (λ g. AreCounted files counts (Some g)) same counted in
    given (lines_in file ∷ later) m upto ∙ ap (λ all. file_line all m) (sym (append_assoc (map lines_in files) (lines_in file ∷ []) later) ∙ ap (λ all. all ++ later) (sym (map-append lines_in files (file ∷ []))))
counted-more files counts file s u None None was is stays before after counted =
    let first = noted-newlines (flat_map (ended false) files) s before.lines was in
    let all = noted-newlines (flat_map (ended false) (files ++ file ∷ [])) u after.lines is in
    let count : lines_noted u.index - lines_noted s.index ≡ lines_in file = omega (arith, first, all, newlines-last files file) in
    rw (counted, count) (sym (map-append lines_in files (file ∷ [])))
counted-more files counts file s u None (Some kind.Memory) was is stays before after counted = tt
counted-more files counts file s u None (Some (Input n code)) was is stays before after counted = λ later m upto.
    let text : List ℕ = flat_map (ended false) (files ++ file ∷ []) in
    let refused : input_of Bundle text ≡ Err (Input n code) =
    ap (input_of Bundle) (sym (append-nil text)) ∙ sym (after.input []) ∙ ap (λ f. unless_refused f (input_over u.parts (lines_to_come u.cut []))) is
    in
    let within = refused-within text n code refused in
    let size : m ≤ sum_by (λ c. c) (map lines_in files) + lines_in file = omega (arith, upto, within, lines-files (files ++ file ∷ []), sum_by-last lines_in files file, sum-lines files) in
    ap (λ all. file_line all m) counted
    ∙ sym (file_line-front (map lines_in files) (lines_in file) later m size)
    ∙ ap (λ all. file_line all m) (sym (append_assoc (map lines_in files) (lines_in file ∷ []) later) ∙ ap (λ all. all ++ later) (sym (map-append lines_in files (file ∷ []))))

-- one more, which is ended
pub one_more : (files : List (List ℕ)) (counts : List ℕ) (file : List ℕ) (s t u : Feeding) → AreTaken files counts s → TakesIn s t file → EndsFile t u
    → AreTaken (files ++ file ∷ []) (counts_after (lines_noted s.reader.index) u.reader counts) u
one_more files counts file s t u before taken ends =
    let begun : t.begun ≡ is_begun false file = taken.begun ∙ ap (λ b. is_begun b file) before.begun in
    let text : List ℕ = flat_map (ended false) files in
    let all : (text ++ file) ++ line_end t.begun ≡ flat_map (ended false) (files ++ file ∷ []) =
    append_assoc text file (line_end t.begun) ∙ ap (λ rest. text ++ (file ++ rest)) (sym (append-nil (line_end t.begun))) ∙ ended-last files file [] t.begun begun ∙ append-nil (flat_map (ended false) (files ++ file ∷ []))
    in
    let read : IsRead (flat_map (ended false) (files ++ file ∷ [])) u.reader = record {
      input = λ more. ends.takes.input more ∙ taken.takes.input (line_end t.begun ++ more) ∙ before.read.input (file ++ (line_end t.begun ++ more)) ∙ ap (input_of Bundle) (ended-last files file more t.begun begun);
      lines = subst (λ bytes. HasLines bytes u.reader) all (ends.takes.lines (text ++ file) (taken.takes.lines text before.read.lines));
    }
    in
    record {
      read = read;
      counted = counted-more files counts file s.reader u.reader s.reader.fault u.reader.fault refl refl (stays-more s.reader.fault t.reader.fault u.reader.fault taken.takes.stays ends.takes.stays) before.read read before.counted;
      begun = ends.begun;
      size = omega (arith, ends.size, taken.size, before.size, sum_by-last (λ file. length file) files file);
    }

-- ---- the bytes that readers tell

-- one more file
pub told_more : (lefts : List (Option (List ℕ))) (files : List (List ℕ)) (left : Option (List ℕ)) (file : List ℕ) → AreTold lefts files → IfSome left (λ told. file ≡ told)
    → AreTold (lefts ++ left ∷ []) (files ++ file ∷ [])
told_more [] [] left file told is = (is, tt)
told_more [] (f ∷ files) left file told is = absurd told
told_more (l ∷ lefts) [] left file told is = absurd told
told_more (l ∷ lefts) (f ∷ files) left file told is = (told.0, told_more lefts files left file told.1 is)

-- ---- files that are not read yet

-- where the rest is the same, so is its first
same_at : {X : Type 0} (xs ys : List X) (i : ℕ) (d : X) → drop i xs ≡ drop i ys → get_or xs i d ≡ get_or ys i d
same_at {X = X} xs ys i d same = first xs ∙ ap (λ l. get_or l 0 d) same ∙ sym (first ys)
  where
    first : (l : List X) → get_or l i d ≡ get_or (drop i l) 0 d
    first l = sym (get_or-drop i l 0 d ∙ ap (λ k. get_or l k d) (add-zero i))

-- a write to a file changes nothing of those after it
pub rest_kept : {X : Type 0} (old now : List X) (i : ℕ) (x : X) → drop i now ≡ drop i old → drop (i + 1) (set now i x) ≡ drop (i + 1) old
rest_kept old now i x same = drop-set-lt (i + 1) now i x (omega arith) ∙ sym (drop-drop 1 i now) ∙ ap (drop 1) same ∙ drop-drop 1 i old

-- what the readers have left, with one more
pub lefts_more : {X : Type 0} (left : X → Option (List ℕ)) (old now : List X) (i : ℕ) (x : X) → drop i now ≡ drop i old → i < length old → x ≡ get_or now i x
    → take (i + 1) (map left old) ≡ take i (map left old) ++ left x ∷ []
lefts_more left old now i x same within is =
    let element : get_or old i x ≡ x = sym (is ∙ same_at now old i x same) in
    take-map left (i + 1) old ∙ map_more left old i x within ∙ ap (λ y. map left (take i old) ++ left y ∷ []) element
    ∙ ap (λ front. front ++ left x ∷ []) (sym (take-map left i old))

-- what the readers have left, with one more file
pub lefts_read : {R : Type 0} (remaining : R → Option (List ℕ)) (old now : List (Watched R)) (i : ℕ) (file : Watched R) → drop i now ≡ drop i old → i < length old → file ≡ get_or now i file
    → take (i + 1) (map (λ w. remaining (inner_of w)) old) ≡ take i (map (λ w. remaining (inner_of w)) old) ++ remaining (inner_of file) ∷ []
lefts_read remaining old now i file same within is = lefts_more (λ w. remaining (inner_of w)) old now i file same within is

-- what a reader has left, by another name of it
pub told_same : {R : Type 0} (remaining : R → Option (List ℕ)) (file other : Watched R) (bytes : List ℕ) → file ≡ other → IfSome (remaining (inner_of other)) (λ told. bytes ≡ told)
    → IfSome (remaining (inner_of file)) (λ told. bytes ≡ told)
told_same {R = R} remaining file other bytes same told = subst (λ (w : Watched R). IfSome (remaining (inner_of w)) (λ told. bytes ≡ told)) (sym same) told

-- as many files as there are are all
pub lefts-all : {R : Type 0} (remaining : R → Option (List ℕ)) (old : List (Watched R)) (counts : List ℕ) (s : Feeding) (place : ℕ) → place ≡ length old
    → AreReadBefore (take place (map (λ w. remaining (inner_of w)) old)) counts s → AreReadBefore (map (λ w. remaining (inner_of w)) old) counts s
lefts-all {R = R} remaining old counts s place at read =
    let left : Watched R → Option (List ℕ) = λ w. remaining (inner_of w) in
    let all : place ≡ length (map left old) = at ∙ sym (length-map old left) in
    subst (λ lefts. AreReadBefore lefts counts s) (ap (λ n. take n (map left old)) all ∙ take-length (map left old)) read

-- ---- the end of the input

-- what is recorded where all lines were read
pub record-of : (text : List ℕ) (s : InputSoFar) (result : Result Recorded ReadingFault) → s.fault ≡ None → IsRead text s → is_begun false text ≡ false
    → IfOk result (λ read. taps_read (parts_to_come s.parts []) ≡ Ok read.taps) → IfOk result (λ read. read.lines ≡ taps_noted s.index) → IfOk result (λ read. read.size.lines ≡ lines_noted s.index)
    → IfOk result (λ read. IsRecordedOf text read)
record-of text s (Err e) none read ended taps lines size = tt
record-of text s (Ok recorded) none read ended taps lines size =
    let all = all-given text s read.lines none ended in
    let input : input_of Bundle text ≡ parts_to_come s.parts [] =
    ap (input_of Bundle) (sym (append-nil text)) ∙ sym (read.input []) ∙ ap (λ f. unless_refused f (input_over s.parts (lines_to_come s.cut []))) none
    ∙ ap (input_over s.parts) (nothing-begun text s read.lines none ended)
    in
    let named : named_in read.lines.lines ≡ named_from 1 (line_pieces text) =
    ap (λ (ls : Lines). named_in ls.lines) (sym all) ∙ named-text 1 (line_pieces text) (ap (λ (ls : Lines). ls.fault) all)
    in
    record {
      taps = ap taps_read input ∙ taps;
      lines = sym (lines ∙ ap taps_noted read.lines.index ∙ ap (with_lines []) named);
      count =
          size ∙ noted-length text s read.lines ∙ ap (λ (ls : Lines). length ls.lines) (sym all)
          ∙ lines-length 1 (line_pieces text) (ap (λ (ls : Lines). ls.fault) all);
    }

-- what is told of a line that is refused
pub refusal-of : (text counts : List ℕ) (s : InputSoFar) (number : ℕ) (code : InputCode) (told : Refusal) → s.fault ≡ Some (Input number code) → IsRead text s
    → told.number ≡ number → told.code ≡ code → told.at ≡ file_line counts number → told.line ≡ line_told (line_numbered number s.parts.waiting)
    → told.header ≡ header_told code (taps_noted s.index) told.line → told.header_at ≡ header_stands counts number told.header → IsRefusedOf text counts (Refused told)
refusal-of text counts s number code told refused read is_number is_code is_at is_line is_header stands =
    let input : input_of Bundle text ≡ Err (Input number code) =
    ap (input_of Bundle) (sym (append-nil text)) ∙ sym (read.input []) ∙ ap (λ f. unless_refused f (input_over s.parts (lines_to_come s.cut []))) refused
    in
    let header : told.header ≡ header_told code (tap_lines_of text) told.line =
    is_header ∙ ap (header_told code (taps_noted s.index)) is_line ∙ header-told text s number code read.lines ∙ ap (header_told code (tap_lines_of text)) (sym is_line)
    in
    rw (is_number, is_code) (
      ap taps_read input,
      is_at,
      subst (IsTold code (slice_get (line_pieces text) (number - 1))) (sym is_line) (line-told text s number code refused read.lines),
      header,
      stands,
    )

-- lines that waited were read
pub read-waited : (text : List ℕ) (old new : InputSoFar) → ((more : List ℕ) → input_to_come new more ≡ input_to_come old more) → (HasLines text old → HasLines text new) → IsRead text old → IsRead text new
read-waited text old new input lines read = record { input = λ more. input more ∙ read.input more; lines = lines read.lines }

-- ---- all files

-- a line of the files, by the counts of all but the last
file_line-last : (files : List (List ℕ)) (n : ℕ) → n ≤ sum_by lines_in files → file_line (map lines_in files) n ≡ file_line (line_counts files) n
file_line-last [] n within = refl
file_line-last (file ∷ []) n within =
    let size : n ≤ sum_by (λ (c : ℕ). c) [] + lines_in file = omega (arith, within, sum_by-cons lines_in file []) in
    file_line-front [] (lines_in file) [] n size
file_line-last (file ∷ next ∷ files) n within =
    elim (cases_Bool (nat_le n (lines_in file))) [
      | inl here ↦ rw here refl
      | inr past ↦
          let beyond = leb-false n (lines_in file) past in
          let rest : n - lines_in file ≤ sum_by lines_in (next ∷ files) = omega (arith, within, beyond, sum_by-cons lines_in file (next ∷ files)) in
          rw past (ap (after_files 1) (file_line-last (next ∷ files) (n - lines_in file) rest))
    ]

-- where a refused line stands, and each line before it
stands-at : (files : List (List ℕ)) (counts : List ℕ) (fault : Option ReadFault) (n : ℕ) (code : InputCode) → AreCounted files counts fault → IfSome fault (λ f. f ≡ Input n code) → n ≤ sum_by lines_in files
    → (m : ℕ) → m ≤ n → file_line counts m ≡ file_line (line_counts files) m
stands-at files counts None n code counted same within m upto =
    let size : m ≤ sum_by lines_in files = omega (arith, upto, within) in
    ap (λ all. file_line all m) counted ∙ file_line-last files m size
stands-at files counts (Some f) n code counted same within m upto =
    let size : m ≤ sum_by lines_in files = omega (arith, upto, within) in
    let given : AreCounted files counts (Some (Input n code)) = subst (λ g. AreCounted files counts (Some g)) same counted in
    given [] m upto ∙ ap (λ all. file_line all m) (append-nil (map lines_in files)) ∙ file_line-last files m size

-- where the header of a line's tap stands, by counts that place each line before that line alike
header-stands : (counts others : List ℕ) (n : ℕ) (header : Option ℕ) → ((m : ℕ) → m ≤ n → file_line counts m ≡ file_line others m) → header_stands counts n header ≡ header_stands others n header
header-stands counts others n None alike = refl
header-stands counts others n (Some header) alike =
    elim (cases_Bool (nat_lt header n)) [
      | inl before ↦
          let less : header < n = ltb-true header n before in
          let upto : header ≤ n = omega (arith, less) in
          rw before (ap (λ at. Some at) (alike header upto))
      | inr past ↦ rw past refl
    ]

-- an input has one reading, whatever its last line's end
input-joined : (files : List (List ℕ)) → input_of Bundle (flat_map (ended false) files) ≡ input_of Bundle (joined files)
input-joined files = ap (λ pieces. unless_cut (lines_from 1 pieces).fault (parts_of Bundle (lines_from 1 pieces).lines)) (pieces-joined files)

lines-joined : (files : List (List ℕ)) → tap_lines_of (flat_map (ended false) files) ≡ tap_lines_of (joined files)
lines-joined files = ap (λ pieces. with_lines [] (named_from 1 pieces)) (pieces-joined files)

abbrev size-from : ℕ → ℕ → Size
size-from lines bytes = record { lines = lines; bytes = bytes }

-- where nothing is refused all lines are counted
counted-read : (text : List ℕ) (files : List (List ℕ)) (counts : List ℕ) (taps : List Tap) (s : InputSoFar) (fault : Option ReadFault) → s.fault ≡ fault → IsRead text s → taps_read (input_of Bundle text) ≡ Ok taps
    → AreCounted files counts fault → counts ≡ map lines_in files
counted-read text files counts taps s None is read ok counted = counted
counted-read text files counts taps s (Some f) is read ok counted =
    let refused : ◌≡◌ {A = Result InputSeen ReadFault} (Err f) (input_of Bundle text) =
    sym (ap (λ f. unless_refused f (input_over s.parts (lines_to_come s.cut []))) is) ∙ read.input [] ∙ ap (input_of Bundle) (append-nil text)
    in
    let both : ◌≡◌ {A = Result (List Tap) ReadFault} (Err f) (Ok taps) = ap taps_read refused ∙ ok in
    absurd (cc)

-- what is recorded in the end
pub recorded : (lefts : List (Option (List ℕ))) (counts : List ℕ) (t : Feeding) (result : Result Recorded ReadingFault) → AreReadBefore lefts counts t
    → ((text : List ℕ) → IsRead text t.reader → is_begun false text ≡ false → IfOk result (λ read. IsRecordedOf text read)) → IfOk result (λ read. read.size.bytes ≡ t.bytes) → IfOk result (λ read. read.counts.items ≡ counts)
    → IfOk result (λ read. AreRecorded lefts read)
recorded lefts counts t (Err e) all of bytes are = tt
recorded lefts counts t (Ok read) all of bytes are =
    let files = all.0 in
    let is = of (flat_map (ended false) files) all.2.read (begun-files files) in
    let lines : read.size.lines ≡ sum_by lines_in files = is.count ∙ lines-files files in
    let size : read.size.bytes ≡ sum_by (λ file. length file) files = bytes ∙ all.2.size in
    record {
      files = files;
      told = all.1;
      taps = ap taps_read (sym (input-joined files)) ∙ is.taps;
      lines = sym (lines-joined files) ∙ is.lines;
      size = ap (λ n. size-from n read.size.bytes) lines ∙ ap (size-from (sum_by lines_in files)) size;
      counts = are ∙ counted-read (flat_map (ended false) files) files counts read.taps t.reader t.reader.fault refl all.2.read is.taps all.2.counted;
    }

err-read : (r : Result InputSeen ReadFault) (f : ReadFault) → taps_read r ≡ Err f → r ≡ Err f
err-read (Ok input) f e = absurd (cc)
err-read (Err g) f e = let same : g ≡ f = cc in ap (λ h. Err h) same

-- the refusal of a reader is that of its input
own : (text : List ℕ) (s : InputSoFar) (fault : Option ReadFault) (n : ℕ) (code : InputCode) → s.fault ≡ fault → IsRead text s → input_of Bundle text ≡ Err (Input n code) → IfSome fault (λ f. f ≡ Input n code)
own text s None n code is read refused = tt
own text s (Some f) n code is read refused =
    let input : ◌≡◌ {A = Result InputSeen ReadFault} (Err f) (Err (Input n code)) =
    sym (ap (λ f. unless_refused f (input_over s.parts (lines_to_come s.cut []))) is) ∙ read.input [] ∙ ap (input_of Bundle) (append-nil text) ∙ refused
    in
    cc

-- or why it isn't
pub unrecorded : (lefts : List (Option (List ℕ))) (counts given : List ℕ) (t : Feeding) (result : Result Recorded ReadingFault) → AreReadBefore lefts counts t → given ≡ counts
    → ((text : List ℕ) → IsRead text t.reader → IfErr result (λ e. IsRefusedOf text given e)) → IfErr result (λ e. AreUnrecorded lefts e)
unrecorded lefts counts given t (Ok read) all same why = tt
unrecorded lefts counts given t (Err (Refused refusal)) all same why =
    let files = all.0 in
    let text : List ℕ = flat_map (ended false) files in
    let is = why text all.2.read in
    let input : input_of Bundle text ≡ Err (Input refusal.number refusal.code) = err-read (input_of Bundle text) (Input refusal.number refusal.code) is.0 in
    let within = refused-within text refusal.number refusal.code input in
    let size : refusal.number ≤ sum_by lines_in files = omega (arith, within, lines-files files) in
    let same-line : (m : ℕ) → m ≤ refusal.number → file_line given m ≡ file_line (line_counts files) m = λ m upto.
    ap (λ all. file_line all m) same
    ∙ stands-at files counts t.reader.fault refusal.number refusal.code all.2.counted (own text t.reader t.reader.fault refusal.number refusal.code refl all.2.read input) size m upto
    in
    let whole : refusal.number ≤ refusal.number = omega (arith) in
    record {
      files = files;
      told = all.1;
      refused = ap taps_read (sym (input-joined files)) ∙ is.0;
      stands = is.1 ∙ same-line refusal.number whole;
      line = subst (λ pieces. IsTold refusal.code (slice_get pieces (refusal.number - 1)) refusal.line) (pieces-joined files) is.2;
      header = is.3 ∙ ap (λ lines. header_told refusal.code lines refusal.line) (lines-joined files);
      header_at = is.4 ∙ header-stands given (line_counts files) refusal.number refusal.header same-line;
    }
unrecorded lefts counts given t (Err (Unread file)) all same why = absurd (why (flat_map (ended false) all.0) all.2.read)
unrecorded lefts counts given t (Err Memory) all same why = tt

-- a file that could not be read is one of them
pub unread_one : {R : Type 0} (remaining : R → Option (List ℕ)) (old : List (Watched R)) (fault : ReadingFault) (file : ℕ) → file < length old → TellsUnread file fault
    → AreUnrecorded (map (λ w. remaining (inner_of w)) old) fault
unread_one remaining old (Refused refusal) file within why = absurd why
unread_one {R = R} remaining old (Unread place) file within why =
    let left : Watched R → Option (List ℕ) = λ w. remaining (inner_of w) in
    omega (arith, why, within, length-map old left)
unread_one remaining old Memory file within why = tt

-- where there was no memory, no file is named
pub no_memory : {T : Type 0} (upto place : ℕ) (result : Result T ReadingFault) → place < upto → IsErrAnd result (λ e. e ≡ Memory)
    → IfErr result (λ e. (file : ℕ) × (file < upto) × TellsUnread file e)
no_memory upto place result within is =
    let p = err_from_is_err_and result is in
    rw (p.1, p.2) (place, within, tt)
