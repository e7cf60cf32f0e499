-- The taps of an index may be read again.
use Rattle.std.proofs.Common.{◌≡◌, ℕ, zero, suc, ◌+◌, ◌^◌, ◌<◌, ◌≤◌, nat_lt, List, [], ◌∷◌, length, get_or, Bool, true, false, cond, Some, None, is_some, refl, sym, subst, arith}
use Rattle.std.specs.List.{All, AllByRecursion, filter}
use Rattle.std.proofs.lemmas.Bool.{ltb-false}
use Rattle.aud_tap.specs.Limits.{max_line}
use Rattle.aud_reader.specs.declared.fault.InputCode.TheVariants.{LineTooLong, NoTapName}
use Rattle.aud_reader.specs.declared.line.Line.{Line}
use Rattle.aud_input.specs.LineName.{name_of}
use Rattle.aud_parts.specs.declared.tap_index.tap_runs.Run.{Run}
use Rattle.aud_parts.specs.TapRuns.{IsReadable, MayBeRead, TapRuns, run_lines, runs_lines}
use Rattle.aud_parts.specs.FileLines.{before_refusal, file_lines, front_code, is_named}
use Rattle.aud_parts.specs.IndexSoFar.{byte_count, none_indexed, placed_files, with_lines}
use Rattle.aud_parts.proofs.ListSteps.{all-parts}
use Rattle.aud_parts.proofs.FileRunLemmas.{are-taps, begun-taps}
use Rattle.aud_parts.proofs.RunStartLemmas.{StartsIn, counted-run, starts}

abbrev IsShort : Line → Type 0
IsShort line = length line.bytes ≤ max_line

short-line : (line : Line) → is_some (front_code line) ≡ false → IsShort line
short-line line none = go (nat_lt max_line (length line.bytes)) refl none
  where
    go : (b : Bool) → nat_lt max_line (length line.bytes) ≡ b
        → is_some (cond b (Some LineTooLong) (cond (is_some (name_of line.bytes)) None (Some NoTapName))) ≡ false → IsShort line
    go true e none = absurd (cc)
    go false e none = ltb-false max_line (length line.bytes) e

-- no line is too long before the first that is refused
short-before : (lines : List Line) → AllByRecursion IsShort (before_refusal lines)
short-before [] = tt
short-before (line ∷ lines) = go (is_some (front_code line)) refl (short-before lines)
  where
    go : (b : Bool) → is_some (front_code line) ≡ b → AllByRecursion IsShort (before_refusal lines) → AllByRecursion IsShort (cond b [] (line ∷ before_refusal lines))
    go true e rest = tt
    go false e rest = (short-line line e, rest)

all-filter : {X : Type 0} (P : X → Type 0) (p : X → Bool) (xs : List X) → AllByRecursion P xs → AllByRecursion P (filter p xs)
all-filter P p [] all = tt
all-filter P p (x ∷ xs) all = go (p x) (all-filter P p xs all.1)
  where
    go : (b : Bool) → AllByRecursion P (filter p xs) → AllByRecursion P (cond b (x ∷ filter p xs) (filter p xs))
    go true rest = (all.0, rest)
    go false rest = rest

readable-runs : (files : List (List ℕ)) (runs : List Run) → byte_count files + 1 < 2 ^ 64 → AllByRecursion (StartsIn files) runs → AllByRecursion IsShort (runs_lines files runs)
    → AllByRecursion (IsReadable files) runs
readable-runs files [] counted start short = tt
readable-runs files (run ∷ runs) counted start short =
    let parts = all-parts IsShort (run_lines files run) (runs_lines files runs) short in
    (record { counted = counted-run files run start.0 counted; short = parts.0 }, readable-runs files runs counted start.1 parts.1)

all-at : {X : Type 0} (P : X → Type 0) (xs : List X) (i : ℕ) (d : X) → i < length xs → AllByRecursion P xs → P (get_or xs i d)
all-at P [] i d within all = absurd (omega arith)
all-at P (x ∷ xs) zero d within all = all.0
all-at P (x ∷ xs) (suc i) d within all = all-at P xs i d (omega arith) all.1

-- the taps of an index that has read the files
pub may-be-read : (files : List (List ℕ)) → byte_count files + 1 < 2 ^ 64 → All (MayBeRead files) (with_lines none_indexed (placed_files 0 1 files)).noted.taps
may-be-read files counted = λ i d within.
    let taps = (with_lines none_indexed (placed_files 0 1 files)).noted.taps in
    let tap = get_or taps i d in
    let short = all-filter IsShort (is_named tap.name) (before_refusal (file_lines files)) (short-before (file_lines files)) in
    let start = all-at (λ (t : TapRuns). AllByRecursion (StartsIn files) t.runs) taps i d within (starts files) in
    record {
      readable = readable-runs files tap.runs counted start (subst (AllByRecursion IsShort) (sym ((are-taps files).lines i d within)) short);
      begun = begun-taps files i d within;
    }
