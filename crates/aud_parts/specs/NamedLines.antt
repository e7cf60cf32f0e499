-- The text that says from which lines of a recording the lines of a part come, and from which files it was read.
use Rattle.std.specs.Prelude.{ℕ, ◌+◌, ◌^◌, ◌==◌, ◌&&◌, not, nat_lt, nat_le, Bool, if◌then◌else◌, List, [], ◌∷◌, ◌++◌, length, drop, codes, decimal, Option, Some, None, option_map, option_and_then, Result, Ok, Err}
use Rattle.std.specs.List.{flat_map, list_all}
use Rattle.std.specs.Option.{option_map_or}
use Rattle.std.specs.Str.{is_utf8}
use Rattle.aud_base.specs.Steps.{◌>>=◌, need, guard, GivesUnless}
use Rattle.aud_tap.specs.Forms.{passing}
use Rattle.aud_input.specs.declared.input_file.InputFile.{InputFile}
use Rattle.aud_input.specs.declared.line_runs.LineRun.{LineRun}
use Rattle.aud_input.specs.declared.part_lines.PartLines.{PartLines}
use Rattle.aud_input.specs.declared.reading.Size.{Size}
use Rattle.aud_input.specs.LineRuns.{capped, count_of}
use Rattle.aud_parts.specs.declared.named_lines.fault.LinesFault.{LinesFault}
use Rattle.aud_parts.specs.declared.named_lines.fault.LinesFault.TheVariants.{NoSize, BadLine, OtherCount, Memory}
use Rattle.aud_parts.specs.Cut.{cut_at, whole_lines, number_in}
use Rattle.aud_parts.specs.Listing.{number_under, numbers_under}

-- ---- the text

-- the first line, without its newline, as the others: how many lines and bytes the part has
abbrev pub size_line : Size → List ℕ
size_line size = codes "lines=" ++ decimal size.lines ++ codes " bytes=" ++ decimal size.bytes

-- the line of a run: how many lines follow one another, and the first of them
abbrev pub run_line : LineRun → List ℕ
run_line run = decimal run.count ++ codes " " ++ decimal run.first

-- the line of a file: how many lines it has, and its name
abbrev pub file_line : InputFile → List ℕ
file_line file = codes "file=" ++ decimal file.lines ++ codes " " ++ file.name

-- a line with the newline that ends it
abbrev pub ended : List ℕ → List ℕ
ended line = line ++ codes "\n"

-- the text: the first line, a line for each run, and a line for each file
abbrev pub lines_text : PartLines → List ℕ
lines_text part =
    ended (size_line part.size) ++ flat_map (λ run. ended (run_line run)) part.runs
    ++ flat_map (λ file. ended (file_line file)) part.files

-- ---- what it keeps to

-- the run has a line, lines count from 1, and its numbers are below 2^64
abbrev pub is_run : LineRun → Bool
is_run run =
    nat_le 1 run.count && nat_le 1 run.first && nat_lt run.count (2 ^ 64) && nat_lt run.first (2 ^ 64)

-- the file's lines are fewer than 2^64, and its name is UTF-8 without a newline
abbrev pub is_file : InputFile → Bool
is_file file = nat_lt file.lines (2 ^ 64) && is_utf8 file.name && list_all (λ b. not (b == 10)) file.name

-- each run and each file is so, the part has as many lines as the runs, and its bytes are below 2^64
abbrev pub are_lines : PartLines → Bool
are_lines part =
    list_all is_run part.runs && list_all is_file part.files
    && capped (count_of part.runs) == part.size.lines && nat_lt part.size.bytes (2 ^ 64)

-- ---- the reading

-- the size of these counts
abbrev pub size_of : ℕ × ℕ → Size
size_of counts = record { lines = counts.0; bytes = counts.1 }

-- the size that the first line says, `lines=<number> bytes=<number>`
abbrev pub size_in : List ℕ → Option Size
size_in line = option_map size_of (numbers_under (codes "lines=") (codes "bytes=") line)

-- so many lines from this one on, where both count from 1
abbrev pub run_from : ℕ → ℕ → Option LineRun
run_from count first =
    if nat_le 1 count && nat_le 1 first then Some (record { count = count; first = first }) else None

-- the run of two words
abbrev pub run_in_words : List ℕ × List ℕ → Option LineRun
run_in_words words =
    option_and_then (λ count. option_and_then (run_from count) (number_in words.1)) (number_in words.0)

-- the run of a line
abbrev pub run_in : List ℕ → Option LineRun
run_in line = option_and_then run_in_words (cut_at 32 line)

-- the file of `file=<number>` and a name
abbrev pub file_in_words : List ℕ × List ℕ → Option InputFile
file_in_words words =
    option_and_then (λ lines. option_map (λ name. record { name = name; lines = lines }) (passing is_utf8 words.1))
    (number_under (codes "file=") words.0)

-- the file of a line
abbrev pub file_in : List ℕ → Option InputFile
file_in line = option_and_then file_in_words (cut_at 32 line)

-- the runs of the lines, up to the first line that is none
abbrev pub runs_in : List (List ℕ) → List LineRun
runs_in [] = []
runs_in (line ∷ lines) = option_map_or (λ run. run ∷ runs_in lines) (run_in line) []

-- the files of the lines, of which the first has this number; the first line that is none is refused
abbrev pub files_in : ℕ → List (List ℕ) → Result (List InputFile) LinesFault
files_in number [] = Ok []
files_in number (line ∷ lines) =
    need (BadLine number) (file_in line) >>= (λ file. files_in (number + 1) lines >>= (λ files. Ok (file ∷ files)))

-- a part of this size with these runs and files, if the runs have as many lines
unfoldable pub part_with : Size → List LineRun → List InputFile → Result PartLines LinesFault
part_with size runs files = do
  same ← guard OtherCount (capped (count_of runs) == size.lines)
  Ok (record { size = size; runs = runs; files = files })

-- the part of this size, where the lines after the first begin with these runs: the others are of files
abbrev pub part_after : List (List ℕ) → List LineRun → Size → Result PartLines LinesFault
part_after lines runs size = files_in (length runs + 2) (drop (length runs) lines) >>= part_with size runs

-- the part of the lines: its size, runs, and then files
abbrev pub part_in : List (List ℕ) → Result PartLines LinesFault
part_in [] = Err NoSize
part_in (first ∷ lines) = need NoSize (size_in first) >>= part_after lines (runs_in lines)

-- the part that a text is of, or why it is none
abbrev pub part_of : List ℕ → Result PartLines LinesFault
part_of text = need OtherCount (whole_lines text) >>= part_in

-- what a function returned, seen by view, is what the reading gives, unless memory ran out
abbrev pub Gives : {X Y : Type 0} → (X → Y) → Result X LinesFault → Result Y LinesFault → Type 0
Gives = GivesUnless Memory
