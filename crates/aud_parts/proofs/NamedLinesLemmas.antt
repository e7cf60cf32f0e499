-- What the text of a part's lines reads as.
use Rattle.std.proofs.Common.{◌≡◌, ℕ, ◌+◌, ◌^◌, ◌<◌, ◌≤◌, ◌==◌, ◌&&◌, not, nat_lt, nat_le, List, [], ◌∷◌, ◌++◌, length, map, take, true, false, Option, Some, None, option_map, Result, Ok, Err, refl, sym, ap, ◌∙◌, arith, append_assoc, append-nil, flat_map, codes, decimal}
use Rattle.std.specs.List.{list_all}
use Rattle.std.specs.Option.{option_and_then}
use Rattle.std.specs.Str.{is_utf8}
use Rattle.std.proofs.lemmas.Bool.{and_parts, and_from, eqb-true, ltb-true, not_from_false, not-true}
use Rattle.std.proofs.lemmas.List.{take_all, drop_at, length-map}
use Rattle.aud_base.specs.Steps.{◌>>=◌, need}
use Rattle.aud_tap.specs.Forms.{passing}
use Rattle.aud_input.specs.declared.input_file.InputFile.{InputFile}
use Rattle.aud_input.specs.declared.line_runs.LineRun.{LineRun}
use Rattle.aud_input.specs.declared.part_lines.PartLines.{PartLines}
use Rattle.aud_input.specs.declared.reading.Size.{Size}
use Rattle.aud_input.specs.LineRuns.{capped, count_of}
use Rattle.aud_parts.specs.declared.named_lines.fault.LinesFault.{LinesFault}
use Rattle.aud_parts.specs.declared.named_lines.fault.LinesFault.TheVariants.{BadLine, NoSize, OtherCount}
use Rattle.aud_parts.specs.Cut.{cut_at, whole_lines, number_in}
use Rattle.aud_parts.specs.Listing.{number_under}
use Rattle.aud_parts.specs.NamedLines.{size_line, run_line, file_line, ended, lines_text, is_run, is_file, are_lines, size_of, size_in, run_from, run_in_words, run_in, file_in_words, file_in, runs_in, files_in, part_with, part_after, part_in, part_of}
use Rattle.aud_parts.proofs.CutLemmas.{has_byte, cut-after, lines-ended, lines-flat, with_lines}
use Rattle.aud_parts.proofs.ListingLemmas.{has_byte-append, numbers-back, prefix-back}
use Rattle.aud_parts.proofs.NumberLemmas.{number-back, decimal-without}

-- ---- a loop over the lines

-- files before those that are read
abbrev pub with_files : List InputFile → Result (List InputFile) LinesFault → Result (List InputFile) LinesFault
with_files front rest = rest >>= (λ files. Ok (front ++ files))

-- after one more line
pub files_next : (number : ℕ) (line : List ℕ) (lines : List (List ℕ)) (front : List InputFile) (file : InputFile) → file_in line ≡ Some file
    → with_files front (files_in number (line ∷ lines)) ≡ with_files (front ++ file ∷ []) (files_in (number + 1) lines)
files_next number line lines front file is =
    ap (λ f. with_files front (need (BadLine number) f >>= (λ file. files_in (number + 1) lines >>= (λ files. Ok (file ∷ files))))) is ∙ onto (files_in (number + 1) lines)
  where
    onto : (rest : Result (List InputFile) LinesFault) → with_files front (rest >>= (λ files. Ok (file ∷ files))) ≡ with_files (front ++ file ∷ []) rest
    onto (Ok files) = ap Ok (sym (append_assoc front (file ∷ []) files))
    onto (Err e) = refl

-- ---- what was written

-- a run that keeps to what runs keep to
run-parts : (run : LineRun) → is_run run ≡ true → ((nat_le 1 run.count && nat_le 1 run.first) ≡ true) × (run.count < 2 ^ 64) × (run.first < 2 ^ 64)
run-parts run is =
    let (most, first) = and_parts (nat_le 1 run.count && nat_le 1 run.first && nat_lt run.count (2 ^ 64)) (nat_lt run.first (2 ^ 64)) is in
    let (from, count) = and_parts (nat_le 1 run.count && nat_le 1 run.first) (nat_lt run.count (2 ^ 64)) most in
    (from, ltb-true run.count (2 ^ 64) count, ltb-true run.first (2 ^ 64) first)

-- the line of a run reads as that run
run-back : (run : LineRun) → is_run run ≡ true → run_in (run_line run) ≡ Some run
run-back run is =
    let (from, count, first) = run-parts run is in
    let cut = ap (cut_at 32) (append_assoc (decimal run.count) (codes " ") (decimal run.first)) ∙ cut-after 32 (decimal run.count) (decimal run.first) (decimal-without 32 run.count (omega arith)) refl in
    ap (option_and_then run_in_words) cut
    ∙ (λ i. option_and_then (λ (n : ℕ). option_and_then (run_from n) (number-back run.first first i)) (number-back run.count count i))
    ∙ rw from refl

-- a file that keeps to what files keep to
file-parts : (file : InputFile) → is_file file ≡ true → (file.lines < 2 ^ 64) × (is_utf8 file.name ≡ true) × (list_all (λ b. not (b == 10)) file.name ≡ true)
file-parts file is =
    let (most, ended) = and_parts (nat_lt file.lines (2 ^ 64) && is_utf8 file.name) (list_all (λ b. not (b == 10)) file.name) is in
    let (few, text) = and_parts (nat_lt file.lines (2 ^ 64)) (is_utf8 file.name) most in
    (ltb-true file.lines (2 ^ 64) few, text, ended)

-- the line of a file is cut at the blank before its name
file-cut : (file : InputFile) → cut_at 32 (file_line file) ≡ Some (codes "file=" ++ decimal file.lines, file.name)
file-cut file =
    let front = codes "file=" ++ decimal file.lines in
    ap (cut_at 32) (append_assoc front (codes " ") file.name)
    ∙ cut-after 32 front file.name (has_byte-append 32 (codes "file=") (decimal file.lines) refl (decimal-without 32 file.lines (omega arith))) refl

-- it reads as that file
file-back : (file : InputFile) → is_file file ≡ true → file_in (file_line file) ≡ Some file
file-back file is =
    let (few, text, _) = file-parts file is in
    let number : number_under (codes "file=") (codes "file=" ++ decimal file.lines) ≡ Some file.lines = ap (option_and_then number_in) (prefix-back (codes "file=") (decimal file.lines)) ∙ number-back file.lines few in
    ap (option_and_then file_in_words) (file-cut file)
    ∙ ap (option_and_then (λ (n : ℕ). option_map (λ (name : List ℕ). record { name = name; lines = n }) (passing is_utf8 file.name))) number
    ∙ rw text refl

-- and as no run
file-no_run : (file : InputFile) → run_in (file_line file) ≡ None
file-no_run file = ap (option_and_then run_in_words) (file-cut file)

runs-back : (runs : List LineRun) (files : List InputFile) → list_all is_run runs ≡ true → runs_in (map run_line runs ++ map file_line files) ≡ runs
runs-back [] [] are = refl
runs-back [] (file ∷ files) are = rw (file-no_run file) refl
runs-back (run ∷ runs) files are =
    let here = and_parts (is_run run) (list_all is_run runs) are in
    rw (run-back run here.0, runs-back runs files here.1) refl

files-back : (number : ℕ) (files : List InputFile) → list_all is_file files ≡ true → files_in number (map file_line files) ≡ Ok files
files-back number [] are = refl
files-back number (file ∷ files) are =
    let here = and_parts (is_file file) (list_all is_file files) are in
    rw (file-back file here.0, files-back (number + 1) files here.1) refl

-- the first line reads as its size
size-back : (size : Size) → size.lines < 2 ^ 64 → size.bytes < 2 ^ 64 → size_in (size_line size) ≡ Some size
size-back size small few =
    ap (option_map size_of)
    (numbers-back (codes "lines=") (codes "bytes=") size.lines size.bytes (size_line size) refl small few
    (append_assoc (codes "lines=" ++ decimal size.lines) (codes " bytes=") (decimal size.bytes)))

-- ---- no line has a newline

-- what has each byte other than this one doesn't have it
without : (byte : ℕ) (text : List ℕ) → list_all (λ b. not (b == byte)) text ≡ true → has_byte byte text ≡ false
without byte [] other = refl
without byte (b ∷ text) other =
    let parts = and_parts (not (b == byte)) (list_all (λ b. not (b == byte)) text) other in
    rw (not-true (b == byte) parts.0, without byte text parts.1) refl

-- a key and a number
key-without : (key : List ℕ) (n : ℕ) → has_byte 10 key ≡ false → has_byte 10 (key ++ decimal n) ≡ false
key-without key n none = has_byte-append 10 key (decimal n) none (decimal-without 10 n (omega arith))

run-without : (run : LineRun) → has_byte 10 (run_line run) ≡ false
run-without run =
    key-without (decimal run.count ++ codes " ") run.first
    (has_byte-append 10 (decimal run.count) (codes " ") (decimal-without 10 run.count (omega arith)) refl)

runs-without : (runs : List LineRun) → list_all (λ (run : LineRun). not (has_byte 10 (run_line run))) runs ≡ true
runs-without [] = refl
runs-without (run ∷ runs) = and_from _ _ (not_from_false _ (run-without run)) (runs-without runs)

file-without : (file : InputFile) → is_file file ≡ true → has_byte 10 (file_line file) ≡ false
file-without file is =
    let (_, _, other) = file-parts file is in
    has_byte-append 10 (codes "file=" ++ decimal file.lines ++ codes " ") file.name
    (has_byte-append 10 (codes "file=" ++ decimal file.lines) (codes " ") (key-without (codes "file=") file.lines refl) refl) (without 10 file.name other)

files-without : (files : List InputFile) → list_all is_file files ≡ true → list_all (λ (file : InputFile). not (has_byte 10 (file_line file))) files ≡ true
files-without [] are = refl
files-without (file ∷ files) are =
    let here = and_parts (is_file file) (list_all is_file files) are in
    and_from _ _ (not_from_false _ (file-without file here.0)) (files-without files here.1)

size-without : (size : Size) → has_byte 10 (size_line size) ≡ false
size-without size =
    key-without (codes "lines=" ++ decimal size.lines ++ codes " bytes=") size.bytes
    (has_byte-append 10 (codes "lines=" ++ decimal size.lines) (codes " bytes=") (key-without (codes "lines=") size.lines refl) refl)

-- ---- the text

-- the lines of files, and nothing after them
files-lines : (files : List InputFile) → list_all is_file files ≡ true → whole_lines (flat_map (λ file. ended (file_line file)) files) ≡ Some (map file_line files)
files-lines files are =
    ap whole_lines (sym (append-nil (flat_map (λ file. ended (file_line file)) files)))
    ∙ lines-flat file_line files [] (files-without files are) ∙ ap Some (append-nil (map file_line files))

-- the text has the lines that were written
lines-back : (part : PartLines) → list_all is_file part.files ≡ true
    → whole_lines (lines_text part) ≡ Some (size_line part.size ∷ map run_line part.runs ++ map file_line part.files)
lines-back part are =
    let head = size_line part.size in
    let runs = flat_map (λ run. ended (run_line run)) part.runs in
    let files = flat_map (λ file. ended (file_line file)) part.files in
    ap whole_lines (append_assoc (ended head) runs files) ∙ lines-ended head (runs ++ files) (size-without part.size)
    ∙ ap (option_map (λ (ls : List (List ℕ)). head ∷ ls)) (lines-flat run_line part.runs files (runs-without part.runs))
    ∙ ap (λ (ls : Option (List (List ℕ))). option_map (λ (ls : List (List ℕ)). head ∷ ls) (with_lines (map run_line part.runs) ls)) (files-lines part.files are)

with-back : (part : PartLines) → (capped (count_of part.runs) == part.size.lines) ≡ true → part_with part.size part.runs part.files ≡ Ok part
unfolding part_with
with-back part same = rw same refl

-- the lines after the first read as the part
after-back : (part : PartLines) → list_all is_file part.files ≡ true → (capped (count_of part.runs) == part.size.lines) ≡ true
    → part_after (map run_line part.runs ++ map file_line part.files) part.runs part.size ≡ Ok part
after-back part are same =
    let left = drop_at (map run_line part.runs) (map file_line part.files) (length part.runs) (length-map part.runs run_line) in
    ap (λ (lines : List (List ℕ)). files_in (length part.runs + 2) lines >>= part_with part.size part.runs) left
    ∙ ap (λ (files : Result (List InputFile) LinesFault). files >>= part_with part.size part.runs) (files-back (length part.runs + 2) part.files are)
    ∙ with-back part same

-- what is written of a part's lines reads as them
pub part-back : (part : PartLines) → are_lines part ≡ true → part_of (lines_text part) ≡ Ok part
part-back part is =
    let (most, below) = and_parts (list_all is_run part.runs && list_all is_file part.files && capped (count_of part.runs) == part.size.lines) (nat_lt part.size.bytes (2 ^ 64)) is in
    let (both, same) = and_parts (list_all is_run part.runs && list_all is_file part.files) (capped (count_of part.runs) == part.size.lines) most in
    let (runs, files) = and_parts (list_all is_run part.runs) (list_all is_file part.files) both in
    let lines : capped (count_of part.runs) ≡ part.size.lines = eqb-true (capped (count_of part.runs)) part.size.lines same in
    let small : part.size.lines < 2 ^ 64 = omega (arith, lines) in
    let few : part.size.bytes < 2 ^ 64 = ltb-true part.size.bytes (2 ^ 64) below in
    let rest = map run_line part.runs ++ map file_line part.files in
    ap (λ (lines : Option (List (List ℕ))). need OtherCount lines >>= part_in) (lines-back part files)
    ∙ ap (λ (size : Option Size). need NoSize size >>= part_after rest (runs_in rest)) (size-back part.size small few)
    ∙ ap (λ (runs : List LineRun). part_after rest runs part.size) (runs-back part.runs part.files runs)
    ∙ after-back part files same

-- the text that was written, after all runs and all files
pub text-done : (part : PartLines) (files : List InputFile) (i : ℕ) (out : List ℕ) → length files ≤ i → files ≡ part.files
    → out ≡ ended (size_line part.size) ++ flat_map (λ run. ended (run_line run)) part.runs ++ flat_map (λ file. ended (file_line file)) (take i files)
    → out ≡ lines_text part
text-done part files i out past same are =
    are ∙ ap (λ (fs : List InputFile). ended (size_line part.size) ++ flat_map (λ run. ended (run_line run)) part.runs ++ flat_map (λ file. ended (file_line file)) fs) (take_all i files past ∙ same)
