-- The runs of each tap have the lines that begin with its name: file after file.
use Rattle.std.proofs.Common.{◌≡◌, ℕ, suc, ◌+◌, ◌≤◌, List, [], ◌∷◌, ◌++◌, length, get_or, false, Some, None, refl, sym, ap, ◌∙◌, subst, arith, append_assoc, append-nil, length-append}
use Rattle.std.specs.List.{All, AllByRecursion, filter_map, flat_map}
use Rattle.std.proofs.lemmas.List.{get_or_at}
use Rattle.std.proofs.lemmas.Option.{none-some, slice_get-get_or}
use Rattle.aud_base.proofs.FirstTexts.{first-texts}
use Rattle.aud_reader.specs.declared.line.Line.{Line}
use Rattle.aud_reader.specs.Lines.{has_newline, line_pieces}
use Rattle.aud_reader.proofs.LinesLemmas.{pieces_of-last}
use Rattle.aud_parts.specs.declared.tap_index.tap_runs.Run.{Run}
use Rattle.aud_parts.specs.TapRuns.{BeginsWithBytes, TapRuns, line_with_bytes, lines_with_bytes, runs_lines}
use Rattle.aud_parts.specs.FileLines.{AreTapsOf, before_refusal, file_lines, front_refusal}
use Rattle.aud_parts.specs.IndexSoFar.{Indexed, PlacedLine, all_ended, none_indexed, placed_files, placed_lines, with_line, with_lines}
use Rattle.aud_parts.proofs.NotedLemmas.{last_run, runs_by, runs_by-at}
use Rattle.aud_parts.proofs.PieceLemmas.{AreWhole, cut-text, lines-append, lines-one, pieces-ended}
use Rattle.aud_parts.proofs.LineRunLemmas.{At, Holds, at-line, name_in}

-- ---- the lines of a file

at-same : (files : List (List ℕ)) (file : ℕ) (ls ms : List Line) (x y : Indexed) (a b : List ℕ) (n m : ℕ) → ls ≡ ms → x ≡ y → a ≡ b → n ≡ m → At files ls x file a n → At files ms y file b m
at-same files file ls ms x y a b n m same_lines same_index same_bytes same_number at =
    subst (At files ms y file b) same_number
    (subst (λ l. At files ms y file l n) same_bytes
    (subst (λ z. At files ms z file a n) same_index
    (subst (λ l. At files l x file a n) same_lines at)))

at-lines : (files : List (List ℕ)) (file : ℕ) (texts : List (List ℕ)) (lines : List Line) (x : Indexed) (before : List ℕ) (n : ℕ) (rest : List ℕ)
    → get_or files file [] ≡ before ++ (all_ended texts ++ rest) → AreWhole texts → At files lines x file before n
    → At files (lines ++ lines_with_bytes n texts) (with_lines x (placed_lines file (length before) n texts)) file (before ++ all_ended texts) (n + length texts)
at-lines files file [] lines x before n rest stands whole at =
    let e : n ≡ n + 0 = omega arith in
    at-same files file lines (lines ++ []) x x before (before ++ []) n (n + 0) (sym (append-nil lines)) refl (sym (append-nil before)) e at
at-lines files file (text ∷ texts) lines x before n rest stands whole at =
    let after = before ++ (text ++ 10 ∷ []) in
    let more = all_ended texts ++ rest in
    let split : before ++ (all_ended (text ∷ texts) ++ rest) ≡ before ++ (text ++ 10 ∷ more) =
    ap (λ l. before ++ l) (append_assoc (text ++ 10 ∷ []) (all_ended texts) rest ∙ append_assoc text (10 ∷ []) more) in
    let one = at-line files file before n text (10 ∷ more) (stands ∙ split) whole.0 lines x at in
    let next : get_or files file [] ≡ after ++ more =
    stands ∙ split ∙ sym (append_assoc before (text ++ 10 ∷ []) more ∙ ap (λ l. before ++ l) (append_assoc text (10 ∷ []) more)) in
    let all = at-lines files file texts (lines ++ line_with_bytes n text) (with_line x (record { file = file; from = length before; number = n; text = text })) after (n + 1) rest next whole.1 one in
    let a = length-append before (text ++ 10 ∷ []) in
    let b = length-append text (10 ∷ []) in
    let starts : length after ≡ length before + length text + 1 = omega (arith, a, b) in
    let count : n + 1 + length texts ≡ n + length (text ∷ texts) = omega arith in
    let y = with_line x (record { file = file; from = length before; number = n; text = text }) in
    at-same files file ((lines ++ line_with_bytes n text) ++ lines_with_bytes (n + 1) texts) (lines ++ lines_with_bytes n (text ∷ texts))
    (with_lines y (placed_lines file (length after) (n + 1) texts)) (with_lines x (placed_lines file (length before) n (text ∷ texts)))
    (after ++ all_ended texts) (before ++ all_ended (text ∷ texts)) (n + 1 + length texts) (n + length (text ∷ texts))
    (append_assoc lines (line_with_bytes n text) (lines_with_bytes (n + 1) texts))
    (ap (λ k. with_lines y (placed_lines file k (n + 1) texts)) starts)
    (append_assoc before (text ++ 10 ∷ []) (all_ended texts))
    count
    all

-- an index of all lines of the files up to the end of this one
record Ends (files : List (List ℕ)) (lines : List Line) (x : Indexed) (file : ℕ) : Type 0 where
  pub holds : Holds files (before_refusal lines) x.noted
  pub fault : x.fault ≡ front_refusal lines
  pub last : x.fault ≡ None → (run : Run) → last_run x.noted ≡ Some run → run.file ≤ file

ends-file : (files : List (List ℕ)) (file : ℕ) (lines : List Line) (x : Indexed) (before : List ℕ) (n : ℕ) → At files lines x file before n → Ends files lines x file
ends-file files file lines x before n at = record { holds = at.holds; fault = at.fault; last = λ free run is. (at.last free run is).0 }

-- the next file begins
next-file : (files : List (List ℕ)) (file n : ℕ) (lines : List Line) (x : Indexed) → Ends files lines x file → At files lines x (file + 1) [] n
next-file files file n lines x ends = record {
  holds = ends.holds;
  fault = ends.fault;
  last = λ free run is.
      let older = ends.last free run is in
      (omega (arith, older), λ in_file. absurd (omega (arith, older, in_file)));
}

pub placed-append : (file from n : ℕ) (xs ys : List (List ℕ)) → placed_lines file from n (xs ++ ys) ≡ placed_lines file from n xs ++ placed_lines file (from + length (all_ended xs)) (n + length xs) ys
placed-append file from n [] ys =
    let e : from ≡ from + 0 = omega arith in
    let f : n ≡ n + 0 = omega arith in
    ap (λ k. placed_lines file k n ys) e ∙ ap (λ k. placed_lines file (from + 0) k ys) f
placed-append file from n (x ∷ xs) ys =
    let a = length-append (x ++ 10 ∷ []) (all_ended xs) in
    let b = length-append x (10 ∷ []) in
    let e : from + length x + 1 + length (all_ended xs) ≡ from + length (all_ended (x ∷ xs)) = omega (arith, a, b) in
    let f : n + 1 + length xs ≡ n + suc (length xs) = omega arith in
    ap (λ ls. record { file = file; from = from; number = n; text = x } ∷ ls)
    (placed-append file (from + length x + 1) (n + 1) xs ys
    ∙ ap (λ k. placed_lines file (from + length x + 1) (n + 1) xs ++ placed_lines file k (n + 1 + length xs) ys) e
    ∙ ap (λ k. placed_lines file (from + length x + 1) (n + 1) xs ++ placed_lines file (from + length (all_ended (x ∷ xs))) k ys) f)

pub with_lines-append : (x : Indexed) (ls ms : List PlacedLine) → with_lines x (ls ++ ms) ≡ with_lines (with_lines x ls) ms
with_lines-append x [] ms = refl
with_lines-append x (l ∷ ls) ms = with_lines-append (with_line x l) ls ms

-- the last line, which no newline ends
at-last : (files : List (List ℕ)) (file : ℕ) (text : List ℕ) (lines : List Line) (x : Indexed) (before : List ℕ) (n : ℕ) → get_or files file [] ≡ before ++ text → has_newline text ≡ false
    → At files lines x file before n
    → Ends files (lines ++ lines_with_bytes n (line_pieces text)) (with_lines x (placed_lines file (length before) n (line_pieces text))) file
at-last files file [] lines x before n stands whole at =
    subst (λ ls. Ends files ls x file) (sym (append-nil lines)) (ends-file files file lines x before n at)
at-last files file (b ∷ text) lines x before n stands whole at =
    let one = at-line files file before n (b ∷ text) [] (stands ∙ ap (λ l. before ++ l) (sym (append-nil (b ∷ text)))) whole lines x at in
    let ends = ends-file files file _ _ _ _ one in
    let pieces : line_pieces (b ∷ text) ≡ (b ∷ text) ∷ [] = pieces_of-last (b ∷ text) whole (omega arith) in
    subst (λ ps. Ends files (lines ++ lines_with_bytes n ps) (with_lines x (placed_lines file (length before) n ps)) file) (sym pieces)
    (subst (λ ls. Ends files (lines ++ ls) (with_line x (record { file = file; from = length before; number = n; text = b ∷ text })) file) (sym (lines-one n (b ∷ text))) ends)

at-file : (files : List (List ℕ)) (file : ℕ) (bytes : List ℕ) (lines : List Line) (x : Indexed) (n : ℕ) → get_or files file [] ≡ bytes → At files lines x file [] n
    → Ends files (lines ++ lines_with_bytes n (line_pieces bytes)) (with_lines x (placed_lines file 0 n (line_pieces bytes))) file
at-file files file bytes lines x n stands at =
    let c = cut-text bytes in
    let pieces : line_pieces bytes ≡ c.lines ++ line_pieces c.last = ap line_pieces c.is ∙ pieces-ended c.lines c.last c.whole in
    let most = at-lines files file c.lines lines x [] n c.last (stands ∙ c.is) c.whole at in
    let ends = at-last files file c.last _ _ (all_ended c.lines) (n + length c.lines) (stands ∙ c.is) c.unended most in
    let zero_more : length (all_ended c.lines) ≡ 0 + length (all_ended c.lines) = omega arith in
    subst (λ ps. Ends files (lines ++ lines_with_bytes n ps) (with_lines x (placed_lines file 0 n ps)) file) (sym pieces)
    (subst (λ y. Ends files (lines ++ lines_with_bytes n (c.lines ++ line_pieces c.last)) y file)
    (ap (λ k. with_lines (with_lines x (placed_lines file 0 n c.lines)) (placed_lines file k (n + length c.lines) (line_pieces c.last))) zero_more
    ∙ sym (with_lines-append x (placed_lines file 0 n c.lines) (placed_lines file (0 + length (all_ended c.lines)) (n + length c.lines) (line_pieces c.last)))
    ∙ ap (with_lines x) (sym (placed-append file 0 n c.lines (line_pieces c.last))))
    (subst (λ ls. Ends files ls (with_lines (with_lines x (placed_lines file 0 n c.lines)) (placed_lines file (length (all_ended c.lines)) (n + length c.lines) (line_pieces c.last))) file)
    (append_assoc lines (lines_with_bytes n c.lines) (lines_with_bytes (n + length c.lines) (line_pieces c.last)) ∙ ap (λ ls. lines ++ ls) (sym (lines-append n c.lines (line_pieces c.last))))
    ends))

-- ---- all files

record Tells (files : List (List ℕ)) (lines : List Line) (x : Indexed) : Type 0 where
  pub holds : Holds files (before_refusal lines) x.noted
  pub fault : x.fault ≡ front_refusal lines

tells-files : (front files : List (List ℕ)) (lines : List Line) (x : Indexed) (n : ℕ) → At (front ++ files) lines x (length front) [] n
    → Tells (front ++ files) (lines ++ lines_with_bytes n (flat_map line_pieces files)) (with_lines x (placed_files (length front) n files))
tells-files front [] lines x n at = subst (λ ls. Tells (front ++ []) ls x) (sym (append-nil lines)) (record { holds = at.holds; fault = at.fault })
tells-files front (bytes ∷ files) lines x n at =
    let all = front ++ bytes ∷ files in
    let file = length front in
    let pieces = line_pieces bytes in
    let stands : get_or all file [] ≡ bytes = get_or_at front bytes files [] file refl in
    let ends = at-file all file bytes lines x n stands at in
    let y = with_lines x (placed_lines file 0 n pieces) in
    let next = next-file all file (n + length pieces) (lines ++ lines_with_bytes n pieces) y ends in
    let same : all ≡ (front ++ bytes ∷ []) ++ files = sym (append_assoc front (bytes ∷ []) files) in
    let count : file + 1 ≡ length (front ++ bytes ∷ []) = let e = length-append front (bytes ∷ []) in omega (arith, e) in
    let begun = subst (λ fs. At fs (lines ++ lines_with_bytes n pieces) y (length (front ++ bytes ∷ [])) [] (n + length pieces)) same
    (subst (λ k. At all (lines ++ lines_with_bytes n pieces) y k [] (n + length pieces)) count next) in
    let told = tells-files (front ++ bytes ∷ []) files (lines ++ lines_with_bytes n pieces) y (n + length pieces) begun in
    subst (λ z. Tells all (lines ++ lines_with_bytes n (pieces ++ flat_map line_pieces files)) z)
    (ap (λ k. with_lines y (placed_files k (n + length pieces) files)) (sym count) ∙ sym (with_lines-append x (placed_lines file 0 n pieces) (placed_files (file + 1) (n + length pieces) files)))
    (subst (λ ls. Tells all ls (with_lines y (placed_files (length (front ++ bytes ∷ [])) (n + length pieces) files)))
    (append_assoc lines (lines_with_bytes n pieces) (lines_with_bytes (n + length pieces) (flat_map line_pieces files)) ∙ ap (λ ls. lines ++ ls) (sym (lines-append n pieces (flat_map line_pieces files))))
    (subst (λ fs. Tells fs ((lines ++ lines_with_bytes n pieces) ++ lines_with_bytes (n + length pieces) (flat_map line_pieces files)) (with_lines y (placed_files (length (front ++ bytes ∷ [])) (n + length pieces) files))) (sym same) told))

-- before the first line
begins : (files : List (List ℕ)) → At files [] none_indexed 0 [] 1
unfolding runs_by last_run
begins files = record {
  holds = record { names = refl; runs = λ name. refl; begun = λ name. tt; once = λ place tap at. absurd (none-some tap at) };
  fault = refl;
  last = λ free run at. absurd (none-some run at);
}

tells : (files : List (List ℕ)) → Tells files (file_lines files) (with_lines none_indexed (placed_files 0 1 files))
tells files = tells-files [] files [] none_indexed 1 (begins files)

-- the taps of an index that has read the files
pub are-taps : (files : List (List ℕ)) → AreTapsOf files (with_lines none_indexed (placed_files 0 1 files)).noted.taps
are-taps files =
    let t = tells files in
    let taps = (with_lines none_indexed (placed_files 0 1 files)).noted.taps in
    record {
      names = (t.holds).names ∙ first-texts (filter_map name_in (before_refusal (file_lines files)));
      lines = λ i tap within.
          let own = get_or taps i tap in
          let at = slice_get-get_or taps i tap within in
          ap (runs_lines files) (sym (runs_by-at own.name taps i own ((t.holds).once i own at) at)) ∙ (t.holds).runs own.name;
    }

-- each run of them begins with a line
pub begun-taps : (files : List (List ℕ)) → All (λ (tap : TapRuns). AllByRecursion (BeginsWithBytes files) tap.runs) (with_lines none_indexed (placed_files 0 1 files)).noted.taps
begun-taps files = λ i tap within.
    let t = tells files in
    let taps = (with_lines none_indexed (placed_files 0 1 files)).noted.taps in
    let own = get_or taps i tap in
    let at = slice_get-get_or taps i tap within in
    subst (AllByRecursion (BeginsWithBytes files)) (runs_by-at own.name taps i own ((t.holds).once i own at) at) ((t.holds).begun own.name)

-- the refusal of an index that has read the files
pub is-refusal : (files : List (List ℕ)) → (with_lines none_indexed (placed_files 0 1 files)).fault ≡ front_refusal (file_lines files)
is-refusal files = (tells files).fault
