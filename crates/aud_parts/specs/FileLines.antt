-- The lines of files that are read one after the other as one input, and the taps that they are of.
use Rattle.std.specs.Prelude.{◌≡◌, ℕ, nat_lt, List, [], ◌∷◌, length, map, Bool, false, Option, Some, None, is_some, if◌then◌else◌}
use Rattle.std.specs.List.{All, filter, filter_map, flat_map}
use Rattle.std.specs.Option.{option_map_or}
use Rattle.std.specs.Str.{bytes_eq}
use Rattle.aud_base.specs.FirstTexts.{first_texts}
use Rattle.aud_tap.specs.Limits.{max_line}
use Rattle.aud_reader.specs.declared.fault.InputCode.{InputCode}
use Rattle.aud_reader.specs.declared.fault.InputCode.TheVariants.{LineTooLong, NoTapName}
use Rattle.aud_reader.specs.declared.fault.ReadFault.{ReadFault}
use Rattle.aud_reader.specs.declared.fault.ReadFault.TheVariants.{Input}
use Rattle.aud_reader.specs.declared.line.Line.{Line}
use Rattle.aud_reader.specs.Lines.{line_pieces}
use Rattle.aud_input.specs.LineName.{name_of}
use Rattle.aud_parts.specs.TapRuns.{TapRuns, lines_with_bytes, runs_lines}

-- the lines of the files that have bytes, without the carriage return at their ends; they count from 1 over all files
abbrev pub file_lines : List (List ℕ) → List Line
file_lines files = lines_with_bytes 1 (flat_map line_pieces files)

-- the refusal of a line that is too long, or that begins with no tap's name
abbrev pub front_code : Line → Option InputCode
front_code line =
    if nat_lt max_line (length line.bytes) then Some LineTooLong
    else (if is_some (name_of line.bytes) then None else Some NoTapName)

-- the lines before the first that is refused so
abbrev pub before_refusal : List Line → List Line
before_refusal [] = []
before_refusal (line ∷ lines) = if is_some (front_code line) then [] else (line ∷ before_refusal lines)

-- the refusal of the line of this number, if it is refused, and else the other
abbrev pub refused_or : ℕ → Option InputCode → Option ReadFault → Option ReadFault
refused_or number None other = other
refused_or number (Some code) other = Some (Input number code)

-- the refusal of the first line that is refused so
abbrev pub front_refusal : List Line → Option ReadFault
front_refusal [] = None
front_refusal (line ∷ lines) = refused_or line.number (front_code line) (front_refusal lines)

-- the names that lines begin with, each once, in the order in which they first come
abbrev pub names_of : List Line → List (List ℕ)
names_of lines = first_texts (filter_map (λ (line : Line). name_of line.bytes) lines)

-- the line begins with this name
abbrev pub is_named : List ℕ → Line → Bool
is_named name line = option_map_or (λ own. bytes_eq own name) (name_of line.bytes) false

-- the lines that begin with this name
abbrev pub lines_named : List ℕ → List Line → List Line
lines_named name lines = filter (is_named name) lines

-- the taps of the files: one for each name that a line begins with, in the order in which these first come; and the
-- bytes of its runs are the lines that begin with its name, in their order. Lines from the first on that is too long, or
-- that begins with no name, are not among them
pub record AreTapsOf (files : List (List ℕ)) (taps : List TapRuns) : Type 0 where
  pub names : map (λ (tap : TapRuns). tap.name) taps ≡ names_of (before_refusal (file_lines files))
  pub lines : All (λ (tap : TapRuns). runs_lines files tap.runs ≡ lines_named tap.name (before_refusal (file_lines files))) taps
