-- The lines of each tap, by their numbers.
use Rattle.std.specs.Prelude.{ℕ, ◌+◌, nat_lt, List, [], ◌∷◌, ◌++◌, Option, Some, None, if◌then◌else◌, slice_get, option_map, map, Bool}
use Rattle.std.specs.List.{cons_option, filter, list_any}
use Rattle.std.specs.Option.{option_and_then}
use Rattle.std.specs.Str.{bytes_eq}
use Rattle.aud_reader.specs.declared.line.Line.{Line}
use Rattle.aud_reader.specs.Lines.{line_pieces}
use Rattle.aud_input.specs.LineName.{name_of}

-- ---- the lines that begin with a name

-- a line that begins with a tap's name, by its number
pub record NamedLine : Type 0 where
  pub number : ℕ
  pub name : List ℕ

-- lines with greater numbers are not kept
abbrev pub max_numbered : ℕ
max_numbered = 4294967294

-- the line of this number, where it begins with a name
abbrev pub named_at : ℕ → List ℕ → Option NamedLine
named_at n line = if nat_lt n (max_numbered + 1) then option_map (λ name. record { number = n; name = name }) (name_of line) else None

-- those of these lines that begin with a name, where the first has the number n
abbrev pub named_from : ℕ → List (List ℕ) → List NamedLine
named_from n [] = []
named_from n (line ∷ lines) = cons_option (named_at n line) (named_from (n + 1) lines)

-- the lines of an input that begin with a name
abbrev pub named_lines : List ℕ → List NamedLine
named_lines text = named_from 1 (line_pieces text)

-- ---- the line of a record

-- the numbers of the lines that begin with this name
abbrev pub numbers_of : List ℕ → List NamedLine → List ℕ
numbers_of name lines = map (λ (line : NamedLine). line.number) (filter (λ (line : NamedLine). bytes_eq line.name name) lines)

-- one of the names is this one
abbrev pub is_among : List (List ℕ) → List ℕ → Bool
is_among names name = list_any (λ other. bytes_eq other name) names

-- the names that lines begin with and that aren't known, each once, in the order of the first lines with them
abbrev pub new_names : List (List ℕ) → List NamedLine → List (List ℕ)
new_names known [] = []
new_names known (line ∷ lines) = if is_among known line.name then new_names known lines else line.name ∷ new_names (known ++ line.name ∷ []) lines

-- the line of a record: the tap's name is that at the tap's place, and the tap's first line is its header. Places and
-- records count from 0, and lines from 1
abbrev pub line_of_record : List ℕ → ℕ → ℕ → Option ℕ
line_of_record text tap rec = option_and_then (λ name. slice_get (numbers_of name (named_lines text)) (rec + 1)) (slice_get (new_names [] (named_lines text)) tap)

-- ---- the lines of each tap, kept

-- a tap's name, and the numbers of its lines
pub record TapLines : Type 0 where
  pub name : List ℕ
  pub numbers : List ℕ

-- the taps' lines with one more, which is the first of its tap where there is none of its name
abbrev pub with_line : List TapLines → NamedLine → List TapLines
with_line [] line = record { name = line.name; numbers = line.number ∷ [] } ∷ []
with_line (t ∷ ts) line = if bytes_eq t.name line.name then record t { numbers = t.numbers ++ line.number ∷ [] } ∷ ts else t ∷ with_line ts line

-- the taps' lines with these after them
abbrev pub with_lines : List TapLines → List NamedLine → List TapLines
with_lines ts [] = ts
with_lines ts (line ∷ lines) = with_lines (with_line ts line) lines

-- the lines of each tap of an input
abbrev pub tap_lines_of : List ℕ → List TapLines
tap_lines_of text = with_lines [] (named_lines text)

-- the line that is kept for a record: the number after the header's and those of the records before it
abbrev pub kept_line : List TapLines → ℕ → ℕ → Option ℕ
kept_line ts tap rec = option_and_then (λ (t : TapLines). slice_get t.numbers (rec + 1)) (slice_get ts tap)

-- the first line that is kept of the tap of this name
abbrev pub first_kept : List TapLines → List ℕ → Option ℕ
first_kept [] name = None
first_kept (t ∷ ts) name = if bytes_eq t.name name then slice_get t.numbers 0 else first_kept ts name

-- the first line with the name that this line begins with
abbrev pub first_like : List TapLines → List ℕ → Option ℕ
first_like ts line = option_and_then (first_kept ts) (name_of line)

-- ---- an index of lines that come one after another

-- the lines of each tap, and the number of the last line
pub record Indexed : Type 0 where
  pub taps : List TapLines
  pub lines : ℕ

-- an index of no lines
abbrev pub no_lines : Indexed
no_lines = record { taps = []; lines = 0 }

-- those of these lines that begin with a name
abbrev pub named_in : List Line → List NamedLine
named_in [] = []
named_in (line ∷ lines) = cons_option (named_at line.number line.bytes) (named_in lines)

-- the number of the last of these lines; where there is none, of the one before them
abbrev pub last_number : ℕ → List Line → ℕ
last_number n [] = n
last_number n (line ∷ lines) = last_number line.number lines

-- an index with these lines after its others
abbrev pub noted : Indexed → List Line → Indexed
noted s lines = record { taps = with_lines s.taps (named_in lines); lines = last_number s.lines lines }

-- the lines of each tap, where an index is kept
abbrev pub taps_noted : Option Indexed → List TapLines
taps_noted None = []
taps_noted (Some s) = s.taps

-- how many lines were noted
abbrev pub lines_noted : Option Indexed → ℕ
lines_noted None = 0
lines_noted (Some s) = s.lines
