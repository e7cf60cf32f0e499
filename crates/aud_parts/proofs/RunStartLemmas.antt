-- Where the runs of an index begin, and that they may be read.
use Rattle.std.proofs.Common.{◌≡◌, ℕ, zero, suc, ◌+◌, ◌-◌, ◌^◌, ◌<◌, ◌≤◌, ◌==◌, ◌&&◌, List, [], ◌∷◌, ◌++◌, length, take, drop, get_or, Bool, true, false, cond, Option, Some, None, is_some, refl, ap, subst, arith, append_assoc, length-append}
use Rattle.std.specs.List.{AllByRecursion}
use Rattle.std.proofs.lemmas.List.{get_or_at, length-drop, length-take, take_at}
use Rattle.aud_node.specs.Lists.{is_empty}
use Rattle.aud_reader.specs.Lines.{is_too_long, line_pieces, onto_first, without_return}
use Rattle.aud_input.specs.LineName.{name_of}
use Rattle.aud_parts.specs.declared.tap_index.tap_runs.Run.{Run}
use Rattle.aud_parts.specs.TapRuns.{TapRuns, run_bytes}
use Rattle.aud_parts.specs.IndexSoFar.{Indexed, Noted, PlacedLine, byte_count, changed, longer, none_indexed, noted_at, one_or_two, place_in, placed_files, placed_lines, run_of, with_bytes, with_line, with_lines, with_name, with_run}
use Rattle.aud_parts.proofs.ListSteps.{all-both}
use Rattle.aud_parts.proofs.PieceLemmas.{bytes-push, pieces-few}

-- the run begins in its file, and its number is no more than the bytes before it are
pub record StartsIn (files : List (List ℕ)) (run : Run) : Type 0 where
  pub few : run.number ≤ 1 + byte_count (take run.file files) + run.from
  pub within : run.from ≤ length (get_or files run.file [])

abbrev AllStart : List (List ℕ) → List TapRuns → Type 0
AllStart files taps = AllByRecursion (λ (tap : TapRuns). AllByRecursion (StartsIn files) tap.runs) taps

-- ---- a line more

starts-one : (files : List (List ℕ)) (one : Bool) (line run : Run) → StartsIn files line → StartsIn files run → AllByRecursion (StartsIn files) (one_or_two one run line)
starts-one files true line run own all = (record { few = all.few; within = all.within }, tt)
starts-one files false line run own all = (all, (own, tt))

starts-longer : (files : List (List ℕ)) (goes_on : Bool) (line : Run) (runs : List Run) → StartsIn files line → AllByRecursion (StartsIn files) runs → AllByRecursion (StartsIn files) (longer goes_on line runs)
starts-longer files goes_on line [] own all = (own, tt)
starts-longer files goes_on line (run ∷ []) own all = starts-one files (goes_on && (run.file == line.file)) line run own all.0
starts-longer files goes_on line (run ∷ next ∷ runs) own all = (all.0, starts-longer files goes_on line (next ∷ runs) own all.1)

starts-changed : (files : List (List ℕ)) (goes_on : Bool) (line : Run) (taps : List TapRuns) (place : ℕ) → StartsIn files line → AllStart files taps → AllStart files (changed (with_run goes_on line) taps place)
starts-changed files goes_on line [] place own all = tt
starts-changed files goes_on line (tap ∷ taps) zero own all = (starts-longer files goes_on line tap.runs own all.0, all.1)
starts-changed files goes_on line (tap ∷ taps) (suc place) own all = (all.0, starts-changed files goes_on line taps place own all.1)

starts-push : (files : List (List ℕ)) (taps : List TapRuns) (tap : TapRuns) → AllStart files taps → AllByRecursion (StartsIn files) tap.runs → AllStart files (taps ++ tap ∷ [])
starts-push files [] tap all own = (own, tt)
starts-push files (t ∷ taps) tap all own = (all.0, starts-push files taps tap all.1 own)

starts-noted : (files : List (List ℕ)) (o : Option ℕ) (s : Noted) (name : List ℕ) (line : Run) → StartsIn files line → AllStart files s.taps → AllStart files (noted_at o s name line).taps
starts-noted files None s name line own all = starts-push files s.taps (record { name = name; runs = line ∷ [] }) all (own, tt)
starts-noted files (Some place) s name line own all = starts-changed files (place == s.last) line s.taps place own all

starts-named : (files : List (List ℕ)) (x : Indexed) (line : PlacedLine) (o : Option (List ℕ)) → StartsIn files (run_of line) → AllStart files (x.noted).taps
    → AllStart files ((with_name x line o).noted).taps
starts-named files x line None own all = all
starts-named files x line (Some name) own all = starts-noted files (place_in (x.noted).taps name) x.noted name (run_of line) own all

starts-long : (files : List (List ℕ)) (long : Bool) (x y z : Indexed) → AllStart files (y.noted).taps → AllStart files (z.noted).taps → AllStart files ((cond long y z).noted).taps
starts-long files true x y z left right = left
starts-long files false x y z left right = right

starts-line : (files : List (List ℕ)) (x : Indexed) (line : PlacedLine) → StartsIn files (run_of line) → AllStart files (x.noted).taps → AllStart files ((with_line x line).noted).taps
starts-line files x line own all =
    starts-long files (is_empty (without_return line.text)) x x (cond (is_some x.fault) x (with_bytes x line)) all
    (starts-long files (is_some x.fault) x x (with_bytes x line) all
    (starts-long files (is_too_long line.text) x _ (with_name x line (name_of line.text)) all (starts-named files x line (name_of line.text) own all)))

starts-lines : (files : List (List ℕ)) (x : Indexed) (lines : List PlacedLine) → AllByRecursion (λ (line : PlacedLine). StartsIn files (run_of line)) lines → AllStart files (x.noted).taps
    → AllStart files ((with_lines x lines).noted).taps
starts-lines files x [] own all = all
starts-lines files x (line ∷ lines) own all = starts-lines files (with_line x line) lines own.1 (starts-line files x line own.0 all)

-- ---- where lines begin

-- the bytes of lines, each with what ends it
abbrev size_of : List (List ℕ) → ℕ
size_of [] = 0
size_of (text ∷ texts) = length text + 1 + size_of texts

pieces-size : (text : List ℕ) → size_of (line_pieces text) ≤ length text + 1
pieces-size [] = omega arith
pieces-size (b ∷ text) =
    let rest = pieces-size text in
    elim (b == 10) as (λ t. size_of (cond t ([] ∷ line_pieces text) (onto_first b (line_pieces text))) ≤ suc (length text) + 1) [
      | true ↦ omega (arith, rest)
      | false ↦ first b (line_pieces text) (length text) rest
    ]
  where
    first : (b : ℕ) (pieces : List (List ℕ)) (n : ℕ) → size_of pieces ≤ n + 1 → size_of (onto_first b pieces) ≤ suc n + 1
    first b [] n few = omega (arith, few)
    first b (l ∷ ls) n few = omega (arith, few)

starts-placed : (files : List (List ℕ)) (file from n : ℕ) (texts : List (List ℕ)) → n ≤ 1 + byte_count (take file files) + from → from + size_of texts ≤ length (get_or files file []) + 1
    → AllByRecursion (λ (line : PlacedLine). StartsIn files (run_of line)) (placed_lines file from n texts)
starts-placed files file from n [] few within = tt
starts-placed files file from n (text ∷ texts) few within = (
  record { few = few; within = omega (arith, within) },
  starts-placed files file (from + length text + 1) (n + 1) texts (omega (arith, few)) (omega (arith, within)),
)

starts-files : (front files : List (List ℕ)) (n : ℕ) → n ≤ 1 + byte_count front
    → AllByRecursion (λ (line : PlacedLine). StartsIn (front ++ files) (run_of line)) (placed_files (length front) n files)
starts-files front [] n few = tt
starts-files front (bytes ∷ files) n few =
    let all = front ++ bytes ∷ files in
    let own : get_or all (length front) [] ≡ bytes = get_or_at front bytes files [] (length front) refl in
    let before : take (length front) all ≡ front = take_at front (bytes ∷ files) (length front) refl in
    let count : length (front ++ bytes ∷ []) ≡ length front + 1 = length-append front (bytes ∷ []) in
    let pushed = bytes-push front bytes in
    let lines = pieces-few bytes in
    let size = pieces-size bytes in
    let few_here : n ≤ 1 + byte_count (take (length front) all) + 0 = let e = ap byte_count before in omega (arith, e, few) in
    let fits : 0 + size_of (line_pieces bytes) ≤ length (get_or all (length front) []) + 1 = let e = ap length own in omega (arith, e, size) in
    let rest = starts-files (front ++ bytes ∷ []) files (n + length (line_pieces bytes)) (omega (arith, few, pushed, lines)) in
    all-both (λ (line : PlacedLine). StartsIn all (run_of line)) (placed_lines (length front) 0 n (line_pieces bytes)) (placed_files (length front + 1) (n + length (line_pieces bytes)) files)
    (starts-placed all (length front) 0 n (line_pieces bytes) few_here fits)
    (subst (λ fs. AllByRecursion (λ (line : PlacedLine). StartsIn fs (run_of line)) (placed_files (length front + 1) (n + length (line_pieces bytes)) files)) (append_assoc front (bytes ∷ []) files)
    (subst (λ k. AllByRecursion (λ (line : PlacedLine). StartsIn ((front ++ bytes ∷ []) ++ files) (run_of line)) (placed_files k (n + length (line_pieces bytes)) files)) count rest))

-- the runs of an index that has read the files
pub starts : (files : List (List ℕ)) → AllStart files ((with_lines none_indexed (placed_files 0 1 files)).noted).taps
starts files = starts-lines files none_indexed (placed_files 0 1 files) (starts-files [] files 1 (omega arith)) tt

-- ---- how their lines count

file-within : (files : List (List ℕ)) (file : ℕ) → byte_count (take file files) + length (get_or files file []) ≤ byte_count files
file-within [] zero = omega arith
file-within [] (suc file) = omega arith
file-within (bytes ∷ files) zero = omega arith
file-within (bytes ∷ files) (suc file) = let rest = file-within files file in omega (arith, rest)

pub counted-run : (files : List (List ℕ)) (run : Run) → StartsIn files run → byte_count files + 1 < 2 ^ 64 → run.number + length (run_bytes files run) < 2 ^ 64
counted-run files run s counted =
    let bytes = get_or files run.file [] in
    let taken = length-take (run.to - run.from) (drop run.from bytes) in
    let dropped = length-drop run.from bytes in
    let own = file-within files run.file in
    let few = s.few in
    let within = s.within in
    omega (arith, taken, dropped, own, few, within, counted)
