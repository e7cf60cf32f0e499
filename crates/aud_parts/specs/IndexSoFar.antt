-- What the index of taps keeps of the files that were read so far, line after line. Of these words its callers need
-- `HasRead` alone, and nothing of what stands behind it.
use Rattle.std.specs.Prelude.{◌≡◌, ℕ, zero, suc, ◌+◌, ◌-◌, ◌^◌, ◌<◌, ◌==◌, ◌&&◌, nat_lt, List, [], ◌∷◌, ◌++◌, length, take, Bool, false, Option, Some, None, is_some, slice_get, slice_index, if◌then◌else◌}
use Rattle.std.specs.List.{AllByRecursion, flat_map}
use Rattle.std.specs.Str.{bytes_eq}
use Rattle.aud_base.specs.Places.{places_of}
use Rattle.aud_tap.specs.Names.{first_index}
use Rattle.aud_node.specs.Lists.{is_empty}
use Rattle.aud_reader.specs.declared.fault.InputCode.TheVariants.{LineTooLong, NoTapName}
use Rattle.aud_reader.specs.declared.fault.ReadFault.{ReadFault}
use Rattle.aud_reader.specs.declared.fault.ReadFault.TheVariants.{Input}
use Rattle.aud_reader.specs.Lines.{has_newline, is_too_long, line_pieces, without_return}
use Rattle.aud_input.specs.LineName.{name_of}
use Rattle.aud_parts.specs.declared.tap_index.Begun.{Begun}
use Rattle.aud_parts.specs.declared.tap_index.TapIndex.{TapIndex}
use Rattle.aud_parts.specs.declared.tap_index.tap_runs.Run.{Run}
use Rattle.aud_parts.specs.declared.tap_index.tap_runs.RunsByTap.{RunsByTap}
use Rattle.aud_parts.specs.TapRuns.{TapRuns}

-- ---- lines where they stand

-- a line of a file, without the newline that ends it, by where it begins; its number counts from 1 over all files
pub record PlacedLine : Type 0 where
  pub file : ℕ
  pub from : ℕ
  pub number : ℕ
  pub text : List ℕ

-- lines of a file that stand one after the other, of which the first begins here and has this number
abbrev pub placed_lines : ℕ → ℕ → ℕ → List (List ℕ) → List PlacedLine
placed_lines file from number [] = []
placed_lines file from number (text ∷ texts) =
    record { file = file; from = from; number = number; text = text }
    ∷ placed_lines file (from + length text + 1) (number + 1) texts

-- the lines of files, of which the first counts as this one, and its first line has this number
abbrev pub placed_files : ℕ → ℕ → List (List ℕ) → List PlacedLine
placed_files file number [] = []
placed_files file number (bytes ∷ files) =
    placed_lines file 0 number (line_pieces bytes) ++ placed_files (file + 1) (number + length (line_pieces bytes)) files

-- ---- one line more

-- a line as a run
abbrev pub run_of : PlacedLine → Run
run_of line = record { file = line.file; from = line.from; to = line.from + length line.text; number = line.number }

-- a run and a line after it, as one run or as two
abbrev pub one_or_two : Bool → Run → Run → List Run
one_or_two one run line = if one then (record run { to = line.to } ∷ []) else (run ∷ line ∷ [])

-- the runs with a line more: it goes on the last of them where it may, and stands in the same file
abbrev pub longer : Bool → Run → List Run → List Run
longer goes_on line [] = line ∷ []
longer goes_on line (run ∷ []) = one_or_two (goes_on && (run.file == line.file)) run line
longer goes_on line (run ∷ next ∷ runs) = run ∷ longer goes_on line (next ∷ runs)

abbrev pub with_run : Bool → Run → TapRuns → TapRuns
with_run goes_on line tap = record { name = tap.name; runs = longer goes_on line tap.runs }

-- the list with the element at this place changed
abbrev pub changed : {X : Type 0} → (X → X) → List X → ℕ → List X
changed f [] place = []
changed f (x ∷ xs) zero = f x ∷ xs
changed f (x ∷ xs) (suc place) = x ∷ changed f xs place

-- the place of the first tap with the name
abbrev pub place_in : List TapRuns → List ℕ → Option ℕ
place_in taps name = first_index (λ (tap : TapRuns). bytes_eq tap.name name) taps

-- the taps so far, and the place of the one whose line came last
pub record Noted : Type 0 where
  pub taps : List TapRuns
  pub last : ℕ

-- a line of the tap at this place, or the first line of a tap with this name
abbrev pub noted_at : Option ℕ → Noted → List ℕ → Run → Noted
noted_at None s name line = record { taps = s.taps ++ record { name = name; runs = line ∷ [] } ∷ []; last = length s.taps }
noted_at (Some place) s name line = record { taps = changed (with_run (place == s.last) line) s.taps place; last = place }

abbrev pub noted : Noted → List ℕ → Run → Noted
noted s name line = noted_at (place_in s.taps name) s name line

-- the taps so far, and the refusal of the first line that is too long or that begins with no tap's name
pub record Indexed : Type 0 where
  pub noted : Noted
  pub fault : Option ReadFault

abbrev pub refused : Indexed → ReadFault → Indexed
refused s fault = record { noted = s.noted; fault = Some fault }

abbrev pub with_name : Indexed → PlacedLine → Option (List ℕ) → Indexed
with_name s line None = refused s (Input line.number NoTapName)
with_name s line (Some name) = record { noted = noted s.noted name (run_of line); fault = s.fault }

abbrev pub with_bytes : Indexed → PlacedLine → Indexed
with_bytes s line =
    if is_too_long line.text then refused s (Input line.number LineTooLong)
    else with_name s line (name_of line.text)

-- a line more: one without bytes is passed over, and after a refusal each is
abbrev pub with_line : Indexed → PlacedLine → Indexed
with_line s line =
    if is_empty (without_return line.text) then s
    else (if is_some s.fault then s else with_bytes s line)

abbrev pub with_lines : Indexed → List PlacedLine → Indexed
with_lines s [] = s
with_lines s (line ∷ lines) = with_lines (with_line s line) lines

-- before the first line
abbrev pub none_noted : Noted
none_noted = record { taps = []; last = 0 }

abbrev pub none_indexed : Indexed
none_indexed = record { noted = none_noted; fault = None }

-- ---- what the code keeps

abbrev pub noted_in : RunsByTap → Noted
noted_in r = record { taps = r.taps.items; last = r.last }

abbrev pub so_far : TapIndex → Indexed
so_far s = record { noted = noted_in s.runs; fault = s.fault }

-- each tap is the first with its name
abbrev pub AreOnce : List TapRuns → Type 0
AreOnce taps = (place : ℕ) (tap : TapRuns) → slice_get taps place ≡ Some tap → place_in taps tap.name ≡ Some place

-- the place of each tap is known by its name
pub record KeepsPlaces (r : RunsByTap) : Type 0 where
  pub places : (name : List ℕ) → slice_get (places_of r.places name) 0 ≡ place_in r.taps.items name
  pub once : AreOnce r.taps.items

-- a line of the tap of this name was noted
pub record Notes (old new : RunsByTap) (name : List ℕ) (line : Run) : Type 0 where
  pub taps : noted_in new ≡ noted (noted_in old) name line
  pub keeps : KeepsPlaces new

-- the last byte is a carriage return
abbrev pub ends_in_return : List ℕ → Bool
ends_in_return text = nat_lt 0 (length text) && (slice_index text (length text - 1) == 13)

-- a line has begun here, and has these bytes so far
pub record IsBegun (b : Begun) (from : ℕ) (text : List ℕ) : Type 0 where
  pub begins : b.from ≡ from
  pub sized : b.size ≡ length text
  pub front : b.front.items ≡ take 33 text
  pub returns : b.returns ≡ ends_in_return text

-- lines, each with the newline that ends it
abbrev pub all_ended : List (List ℕ) → List ℕ
all_ended lines = flat_map (λ line. line ++ 10 ∷ []) lines

-- how many lines there are
abbrev pub line_count : List (List ℕ) → ℕ
line_count files = length (flat_map line_pieces files)

-- the files before the one that is read now; of that one the lines that have ended, and what came of the next one
pub record ReadSoFar (s : TapIndex) (files : List (List ℕ)) (bytes : List ℕ) : Type 0 where
  pub lines : List (List ℕ)
  pub text : List ℕ
  pub cut : bytes ≡ all_ended lines ++ text
  pub whole : AllByRecursion (λ line. has_newline line ≡ false) lines
  pub unended : has_newline text ≡ false
  pub file : s.file ≡ length files
  pub number : s.number ≡ 1 + line_count files + length lines
  pub begun : IsBegun s.begun (length (all_ended lines)) text
  pub keeps : KeepsPlaces s.runs
  pub taps : so_far s ≡ with_lines none_indexed (placed_files 0 1 files ++ placed_lines (length files) 0 (1 + line_count files) lines)

-- each byte and each file is counted below 2 to the 64th
abbrev pub byte_count : List (List ℕ) → ℕ
byte_count [] = 0
byte_count (bytes ∷ files) = length bytes + 1 + byte_count files

abbrev pub IsCounted : List (List ℕ) → List ℕ → Type 0
IsCounted files bytes = byte_count files + length bytes + 1 < 2 ^ 64

-- the index has read these files to their ends, and these bytes of the next one
abbrev pub HasRead : TapIndex → List (List ℕ) → List ℕ → Type 0
HasRead s files bytes = IsCounted files bytes → ReadSoFar s files bytes
