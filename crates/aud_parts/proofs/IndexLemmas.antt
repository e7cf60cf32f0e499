-- What an index keeps of the files that were read so far, step by step.
use Rattle.std.proofs.Common.{◌≡◌, ℕ, zero, suc, ◌+◌, ◌-◌, ◌<◌, ◌≤◌, ◌==◌, ◌&&◌, ◌^◌, nat_lt, List, [], ◌∷◌, ◌++◌, length, take, true, false, cond, min, Some, is_ok, Result, Ok, Err, OnOk, nat_eq, slice_get, refl, sym, ap, ◌∙◌, subst, arith, append_assoc, append-nil, length-append, slice_index}
use Rattle.std.specs.List.{flat_map}
use Rattle.std.proofs.lemmas.Bool.{lt-ltb}
use Rattle.std.proofs.lemmas.List.{get_or-append-add}
use Rattle.std.proofs.lemmas.Option.{get_or_from_slice_get, slice_get_within}
use Rattle.aud_reader.specs.Lines.{has_newline, line_pieces}
use Rattle.aud_reader.proofs.LinesLemmas.{has_newline-append, pieces_of-last}
use Rattle.aud_parts.specs.declared.tap_index.Begun.{Begun}
use Rattle.aud_parts.specs.declared.tap_index.TapIndex.{TapIndex}
use Rattle.aud_parts.specs.IndexSoFar.{IsBegun, IsCounted, ReadSoFar, all_ended, byte_count, ends_in_return, line_count, none_indexed, placed_files, placed_lines, so_far, with_line, with_lines}
use Rattle.aud_parts.specs.Private.IndexSteps.{HasEnded, HasEndedLast, HasFed, MayEnd, begun_line}
use Rattle.aud_parts.proofs.PieceLemmas.{all_ended-push, bytes-push, count-few, count-push, lines-few, pieces-ended, whole-push}
use Rattle.aud_parts.proofs.FileRunLemmas.{placed-append, with_lines-append}

-- ---- a line that has begun

-- its place, by what it is the same as
pub begun-from : (b : Begun) (from other : ℕ) (text : List ℕ) → from ≡ other → IsBegun b from text → IsBegun b other text
begun-from b from other text same begun = subst (λ k. IsBegun b k text) same begun

take-both : (n : ℕ) (xs ys : List ℕ) → take n (xs ++ ys) ≡ take n xs ++ take (n - length (take n xs)) ys
take-both zero xs ys = refl
take-both (suc n) [] ys = let e : suc n ≡ suc n - 0 = omega arith in ap (λ k. take k ys) e
take-both (suc n) (x ∷ xs) ys =
    let e : n - length (take n xs) ≡ suc n - suc (length (take n xs)) = omega arith in
    ap (λ l. x ∷ l) (take-both n xs ys ∙ ap (λ k. take n xs ++ take k ys) e)

-- the last byte of two texts
returns-both : (text bytes : List ℕ) (last : ℕ) → slice_get bytes (length bytes - 1) ≡ Some last → ends_in_return (text ++ bytes) ≡ nat_eq last 13
returns-both text bytes last at =
    let within = slice_get_within bytes (length bytes - 1) last at in
    let size = length-append text bytes in
    let some : nat_lt 0 (length (text ++ bytes)) ≡ true = lt-ltb 0 (length (text ++ bytes)) (omega (arith, within, size)) in
    let place : length (text ++ bytes) - 1 ≡ length text + (length bytes - 1) = omega (arith, within, size) in
    ap (λ b. b && (slice_index (text ++ bytes) (length (text ++ bytes) - 1) == 13)) some
    ∙ ap (λ k. slice_index (text ++ bytes) k == 13) place
    ∙ ap (λ x. x == 13) (get_or-append-add text bytes (length bytes - 1) 0 ∙ get_or_from_slice_get bytes (length bytes - 1) last 0 at)

-- more bytes of it
pub begun-more : {T E : Type 0} (r : Result T E) (b n : Begun) (from last room : ℕ) (text bytes front : List ℕ) → length text + length bytes < 2 ^ 64 → IsBegun b from text
    → n.from ≡ b.from → n.size ≡ min (b.size + length bytes) (2 ^ 64 - 1) → front ≡ take room bytes → room ≡ 33 - length b.front.items
    → n.front.items ≡ cond (is_ok r) (b.front.items ++ front) b.front.items → slice_get bytes (length bytes - 1) ≡ Some last → n.returns ≡ nat_eq last 13
    → OnOk r (IsBegun n from (text ++ bytes))
begun-more (Err e) b n from last room text bytes front small is same grown first at_most put at returns = tt
begun-more (Ok x) b n from last room text bytes front small is same grown first at_most put at returns =
    let size = length-append text bytes in
    let was = is.sized in
    record {
      begins = same ∙ is.begins;
      sized = omega (arith, grown, was, size, small);
      front =
          put ∙ ap (λ l. b.front.items ++ l) (first ∙ ap (λ k. take k bytes) at_most)
          ∙ ap (λ l. l ++ take (33 - length l) bytes) is.front
          ∙ sym (take-both 33 text bytes);
      returns = returns ∙ sym (returns-both text bytes last at);
    }

-- ---- more bytes

-- bytes that are counted with more are so without
pub counted-front : (files : List (List ℕ)) (bytes more : List ℕ) → IsCounted files (bytes ++ more) → IsCounted files bytes
counted-front files bytes more counted = let e = length-append bytes more in omega (arith, counted, e)

-- the line that has begun, with more bytes, is counted
pub counted-text : (s : TapIndex) (files : List (List ℕ)) (bytes more : List ℕ) → IsCounted files (bytes ++ more) → (r : ReadSoFar s files bytes) → length r.text + length more < 2 ^ 64
counted-text s files bytes more counted r =
    let e = length-append bytes more in
    let f = ap length r.cut ∙ length-append (all_ended r.lines) r.text in
    omega (arith, counted, e, f)

pub read-front : (s : TapIndex) (b : Begun) (files : List (List ℕ)) (bytes front : List ℕ) → has_newline front ≡ false → (r : ReadSoFar s files bytes) → IsBegun b (length (all_ended r.lines)) (r.text ++ front)
    → ReadSoFar (record s { begun = b }) files (bytes ++ front)
read-front s b files bytes front whole r begun = record {
  lines = r.lines;
  text = r.text ++ front;
  cut = ap (λ l. l ++ front) r.cut ∙ append_assoc (all_ended r.lines) r.text front;
  whole = r.whole;
  unended = has_newline-append r.text front r.unended whole;
  file = r.file;
  number = r.number;
  begun = begun;
  keeps = r.keeps;
  taps = r.taps;
}

-- ---- a line that ends

pub may-end : (s : TapIndex) (files : List (List ℕ)) (bytes : List ℕ) → byte_count files + length bytes + 2 < 2 ^ 64 → (r : ReadSoFar s files bytes) → MayEnd s r.text
may-end s files bytes counted r =
    let cut = ap length r.cut ∙ length-append (all_ended r.lines) r.text in
    let lines = lines-few r.lines in
    let count = count-few files in
    record {
      begun = begun-from s.begun (length (all_ended r.lines)) s.begun.from r.text (sym (r.begun).begins) r.begun;
      bytes = let begins = (r.begun).begins in omega (arith, counted, cut, begins);
      lines = let number = r.number in omega (arith, counted, cut, lines, count, number);
      keeps = r.keeps;
    }

-- the line, as it is placed
line-is : (s : TapIndex) (files : List (List ℕ)) (bytes : List ℕ) → (r : ReadSoFar s files bytes)
    → begun_line s r.text ≡ record { file = length files; from = 0 + length (all_ended r.lines); number = 1 + line_count files + length r.lines; text = r.text }
line-is s files bytes r =
    let from : s.begun.from ≡ 0 + length (all_ended r.lines) = let e = (r.begun).begins in omega (arith, e) in
    ap (λ k. record { file = k; from = s.begun.from; number = s.number; text = r.text }) r.file
    ∙ ap (λ k. record { file = length files; from = k; number = s.number; text = r.text }) from
    ∙ ap (λ k. record { file = length files; from = 0 + length (all_ended r.lines); number = k; text = r.text }) r.number

-- the taps, with the lines of a text more
taps-more : (s : TapIndex) (files : List (List ℕ)) (bytes : List ℕ) (texts : List (List ℕ)) → (r : ReadSoFar s files bytes)
    → with_lines (so_far s) (placed_lines (length files) (0 + length (all_ended r.lines)) (1 + line_count files + length r.lines) texts)
    ≡ with_lines none_indexed (placed_files 0 1 files ++ placed_lines (length files) 0 (1 + line_count files) (r.lines ++ texts))
taps-more s files bytes texts r =
    let file = length files in
    let n = 1 + line_count files in
    let more = placed_lines file (0 + length (all_ended r.lines)) (n + length r.lines) texts in
    ap (λ x. with_lines x more) r.taps
    ∙ sym (with_lines-append none_indexed (placed_files 0 1 files ++ placed_lines file 0 n r.lines) more)
    ∙ ap (with_lines none_indexed) (append_assoc (placed_files 0 1 files) (placed_lines file 0 n r.lines) more ∙ ap (λ ls. placed_files 0 1 files ++ ls) (sym (placed-append file 0 n r.lines texts)))

pub read-line : (s t : TapIndex) (files : List (List ℕ)) (bytes : List ℕ) → (r : ReadSoFar s files bytes) → HasEnded s t r.text → ReadSoFar t files (bytes ++ 10 ∷ [])
read-line s t files bytes r e =
    let all = all_ended-push r.lines r.text in
    let one = length-append r.lines (r.text ∷ []) in
    let sized = ap length all ∙ length-append (all_ended r.lines) (r.text ++ 10 ∷ []) in
    let ended = length-append r.text (10 ∷ []) in
    let begins = (r.begun).begins in
    let number = r.number in
    record {
      lines = r.lines ++ r.text ∷ [];
      text = [];
      cut = ap (λ l. l ++ 10 ∷ []) r.cut ∙ append_assoc (all_ended r.lines) r.text (10 ∷ []) ∙ sym all ∙ sym (append-nil (all_ended (r.lines ++ r.text ∷ [])));
      whole = whole-push r.lines r.text r.whole r.unended;
      unended = refl;
      file = e.file ∙ r.file;
      number = let counts = e.number in omega (arith, counts, number, one);
      begun = begun-from t.begun (s.begun.from + length r.text + 1) (length (all_ended (r.lines ++ r.text ∷ []))) [] (omega (arith, sized, ended, begins)) e.begun;
      keeps = e.keeps;
      taps = e.taps ∙ ap (with_line (so_far s)) (line-is s files bytes r) ∙ taps-more s files bytes (r.text ∷ []) r;
    }

-- what is read with a newline more is counted
pub counted-ended : (files : List (List ℕ)) (bytes front : List ℕ) → IsCounted files (bytes ++ (front ++ 10 ∷ [])) → byte_count files + length (bytes ++ front) + 2 < 2 ^ 64
counted-ended files bytes front counted =
    let a = length-append bytes (front ++ 10 ∷ []) in
    let b = length-append front (10 ∷ []) in
    let c = length-append bytes front in
    omega (arith, counted, a, b, c)

-- ---- a piece

-- what holds later, where all went well
pub on_ok_later : {T E : Type 0} (C P : Type 0) (r : Result T E) → (C → OnOk r P) → OnOk r (C → P)
on_ok_later C P (Err e) h = tt
on_ok_later C P (Ok x) h = h

pub fed-none : (s : TapIndex) (files : List (List ℕ)) (bytes piece : List ℕ) → ReadSoFar s files bytes → HasFed s files bytes piece piece
fed-none s files bytes piece r = record { done = []; cut = refl; read = subst (ReadSoFar s files) (sym (append-nil bytes)) r }

-- what is read with a line more is counted
pub counted-line : (files : List (List ℕ)) (bytes piece done left front others : List ℕ) → IsCounted files (bytes ++ piece) → piece ≡ done ++ left → left ≡ front ++ 10 ∷ others
    → IsCounted files ((bytes ++ done) ++ (front ++ 10 ∷ []))
counted-line files bytes piece done left front others counted cut next =
    let a = length-append bytes piece in
    let b = ap length cut ∙ length-append done left in
    let c = ap length next ∙ length-append front (10 ∷ others) in
    let d = length-append (bytes ++ done) (front ++ 10 ∷ []) in
    let e = length-append bytes done in
    let f = length-append front (10 ∷ []) in
    omega (arith, counted, a, b, c, d, e, f)

pub fed-line : (s t : TapIndex) (files : List (List ℕ)) (bytes piece left front others : List ℕ) → left ≡ front ++ 10 ∷ others → (f : HasFed s files bytes piece left)
    → ReadSoFar t files ((bytes ++ f.done) ++ (front ++ 10 ∷ [])) → HasFed t files bytes piece others
fed-line s t files bytes piece left front others next f r = record {
  done = f.done ++ (front ++ 10 ∷ []);
  cut = f.cut ∙ ap (λ l. f.done ++ l) next ∙ sym (append_assoc f.done (front ++ 10 ∷ []) others ∙ ap (λ l. f.done ++ l) (append_assoc front (10 ∷ []) others));
  read = subst (ReadSoFar t files) (append_assoc bytes f.done (front ++ 10 ∷ [])) r;
}

-- the whole piece
pub fed-all : (s t : TapIndex) (files : List (List ℕ)) (bytes piece left : List ℕ) → (f : HasFed s files bytes piece left) → ReadSoFar t files ((bytes ++ f.done) ++ left) → ReadSoFar t files (bytes ++ piece)
fed-all s t files bytes piece left f r = subst (ReadSoFar t files) (append_assoc bytes f.done left ∙ ap (λ l. bytes ++ l) (sym f.cut)) r

pub counted-left : (files : List (List ℕ)) (bytes piece done left : List ℕ) → IsCounted files (bytes ++ piece) → piece ≡ done ++ left → IsCounted files ((bytes ++ done) ++ left)
counted-left files bytes piece done left counted cut = subst (IsCounted files) (ap (λ l. bytes ++ l) cut ∙ sym (append_assoc bytes done left)) counted

-- ---- the end of a file

pub counted-file : (files : List (List ℕ)) (bytes : List ℕ) → IsCounted (files ++ bytes ∷ []) [] → byte_count files + length bytes + 2 < 2 ^ 64
counted-file files bytes counted = let e = bytes-push files bytes in omega (arith, counted, e)

pub last-some : (s t : TapIndex) (text : List ℕ) → 0 < s.begun.size → has_newline text ≡ false → MayEnd s text → HasEnded s t text → HasEndedLast s t text
last-some s t text some whole may e =
    let sized = (may.begun).sized in
    let pieces : line_pieces text ≡ text ∷ [] = pieces_of-last text whole (omega (arith, some, sized)) in
    record {
      taps = e.taps ∙ ap (λ ps. with_lines (so_far s) (placed_lines s.file s.begun.from s.number ps)) (sym pieces);
      keeps = e.keeps;
      file = e.file;
      number = let counts = e.number in let one = ap length pieces in omega (arith, counts, one);
    }

-- without bytes there is none
pub last-none : (s : TapIndex) (text : List ℕ) → s.begun.size ≤ 0 → MayEnd s text → HasEndedLast s s text
last-none s [] none may = record { taps = refl; keeps = may.keeps; file = refl; number = omega arith }
last-none s (b ∷ text) none may = let sized = (may.begun).sized in absurd (omega (arith, none, sized))

placed_files-push : (file n : ℕ) (files : List (List ℕ)) (bytes : List ℕ)
    → placed_files file n (files ++ bytes ∷ []) ≡ placed_files file n files ++ placed_lines (file + length files) 0 (n + line_count files) (line_pieces bytes)
placed_files-push file n [] bytes =
    let e : file ≡ file + 0 = omega arith in
    let f : n ≡ n + 0 = omega arith in
    append-nil (placed_lines file 0 n (line_pieces bytes)) ∙ ap (λ k. placed_lines k 0 n (line_pieces bytes)) e ∙ ap (λ k. placed_lines (file + 0) 0 k (line_pieces bytes)) f
placed_files-push file n (f ∷ files) bytes =
    let own = placed_lines file 0 n (line_pieces f) in
    let m = n + length (line_pieces f) in
    let count = length-append (line_pieces f) (flat_map line_pieces files) in
    let a : file + 1 + length files ≡ file + suc (length files) = omega arith in
    let b : m + line_count files ≡ n + line_count (f ∷ files) = omega (arith, count) in
    ap (λ ls. own ++ ls)
    (placed_files-push (file + 1) m files bytes
    ∙ ap (λ k. placed_files (file + 1) m files ++ placed_lines k 0 (m + line_count files) (line_pieces bytes)) a
    ∙ ap (λ k. placed_files (file + 1) m files ++ placed_lines (file + suc (length files)) 0 k (line_pieces bytes)) b)
    ∙ sym (append_assoc own (placed_files (file + 1) m files) (placed_lines (file + suc (length files)) 0 (n + line_count (f ∷ files)) (line_pieces bytes)))

pub read-file : (s t : TapIndex) (b : Begun) (file : ℕ) (files : List (List ℕ)) (bytes : List ℕ) → (r : ReadSoFar s files bytes) → HasEndedLast s t r.text → file ≡ t.file + 1 → IsBegun b 0 []
    → ReadSoFar (record t { file = file; begun = b }) (files ++ bytes ∷ []) []
read-file s t b file files bytes r e next begun =
    let n = 1 + line_count files in
    let pieces : line_pieces bytes ≡ r.lines ++ line_pieces r.text = ap line_pieces r.cut ∙ pieces-ended r.lines r.text r.whole in
    let sized = ap length pieces ∙ length-append r.lines (line_pieces r.text) in
    let more = count-push files bytes in
    let one = length-append files (bytes ∷ []) in
    let was = r.number in
    let counts = e.number in
    let from : s.begun.from ≡ 0 + length (all_ended r.lines) = let begins = (r.begun).begins in omega (arith, begins) in
    let at : 0 + length files ≡ length files = omega arith in
    record {
      lines = [];
      text = [];
      cut = refl;
      whole = tt;
      unended = refl;
      file = let same = e.file ∙ r.file in omega (arith, next, same, one);
      number = omega (arith, counts, was, more, sized);
      begun = begun;
      keeps = e.keeps;
      taps =
          e.taps
          ∙ ap (λ k. with_lines (so_far s) (placed_lines k s.begun.from s.number (line_pieces r.text))) r.file
          ∙ ap (λ k. with_lines (so_far s) (placed_lines (length files) k s.number (line_pieces r.text))) from
          ∙ ap (λ k. with_lines (so_far s) (placed_lines (length files) (0 + length (all_ended r.lines)) k (line_pieces r.text))) was
          ∙ taps-more s files bytes (line_pieces r.text) r
          ∙ ap (λ ps. with_lines none_indexed (placed_files 0 1 files ++ placed_lines (length files) 0 n ps)) (sym pieces)
          ∙ ap (λ k. with_lines none_indexed (placed_files 0 1 files ++ placed_lines k 0 n (line_pieces bytes))) (sym at)
          ∙ ap (with_lines none_indexed) (sym (placed_files-push 0 1 files bytes) ∙ sym (append-nil (placed_files 0 1 (files ++ bytes ∷ []))));
    }

-- ---- all files

-- at the end of a file no line has begun
pub read-whole : (s : TapIndex) (files : List (List ℕ)) → ReadSoFar s files [] → (so_far s ≡ with_lines none_indexed (placed_files 0 1 files)) × (s.number ≡ 1 + line_count files)
read-whole s files r = go r.lines r.cut r.taps r.number
  where
    go : (lines : List (List ℕ)) → [] ≡ all_ended lines ++ r.text → so_far s ≡ with_lines none_indexed (placed_files 0 1 files ++ placed_lines (length files) 0 (1 + line_count files) lines) → s.number ≡ 1 + line_count files + length lines
        → (so_far s ≡ with_lines none_indexed (placed_files 0 1 files)) × (s.number ≡ 1 + line_count files)
    go [] cut taps number = (taps ∙ ap (with_lines none_indexed) (append-nil (placed_files 0 1 files)), omega (arith, number))
    go (line ∷ lines) cut taps number =
        let a = ap length cut ∙ length-append (all_ended (line ∷ lines)) r.text in
        let b = length-append (line ++ 10 ∷ []) (all_ended lines) in
        let c = length-append line (10 ∷ []) in
        absurd (omega (arith, a, b, c))
