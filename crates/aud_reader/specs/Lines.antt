-- The lines of an input, as section "Lines" of docs/FORMAT.md has them.
use Rattle.std.specs.Prelude.{◌≡◌, ℕ, ◌+◌, ◌-◌, ◌==◌, ◌&&◌, nat_lt, List, [], ◌∷◌, ◌++◌, length, take, slice_index, Bool, false, if◌then◌else◌, Option, Some, None, Result, Ok, Err}
use Rattle.std.specs.List.{list_any}
use Rattle.aud_reader.specs.declared.line.Line.{Line}
use Rattle.aud_reader.specs.declared.fault.ReadFault.{ReadFault}
use Rattle.aud_reader.specs.declared.fault.ReadFault.TheVariants.{Input}
use Rattle.aud_reader.specs.declared.fault.InputCode.TheVariants.{LineTooLong}
use Rattle.aud_tap.specs.Limits.{max_line}

-- a byte in front of the first of these pieces
abbrev pub onto_first : ℕ → List (List ℕ) → List (List ℕ)
onto_first b [] = (b ∷ []) ∷ []
onto_first b (l ∷ ls) = (b ∷ l) ∷ ls

-- what stands before each newline, and what follows the last one, if anything does
abbrev pub line_pieces : List ℕ → List (List ℕ)
line_pieces [] = []
line_pieces (b ∷ bs) = if b == 10 then [] ∷ line_pieces bs else onto_first b (line_pieces bs)

-- one carriage return at the end is dropped
abbrev pub without_return : List ℕ → List ℕ
without_return l = if nat_lt 0 (length l) && (slice_index l (length l - 1) == 13) then take (length l - 1) l else l

-- a line is measured without its newline and without the carriage return that is dropped
abbrev pub is_too_long : List ℕ → Bool
is_too_long l = nat_lt max_line (length (without_return l))

-- the line of this number, or its refusal
abbrev pub line_at : ℕ → List ℕ → Result Line ReadFault
line_at n l = if is_too_long l then Err (Input n LineTooLong) else Ok (record { number = n; bytes = without_return l })

-- lines, and the refusal that comes after them, if one does
pub record Lines : Type 0 where
  pub lines : List Line
  pub fault : Option ReadFault

-- lines in front of others
abbrev pub after_lines : List Line → Lines → Lines
after_lines front ls = record { lines = front ++ ls.lines; fault = ls.fault }

-- a line in front of others, or its refusal
abbrev pub line_then : Result Line ReadFault → Lines → Lines
line_then (Ok line) ls = after_lines (line ∷ []) ls
line_then (Err f) ls = record { lines = []; fault = Some f }

-- the lines of these pieces, of which the first has the number n, up to the first that is refused
abbrev pub lines_from : ℕ → List (List ℕ) → Lines
lines_from n [] = record { lines = []; fault = None }
lines_from n (l ∷ ls) = line_then (line_at n l) (lines_from (n + 1) ls)

-- the lines of an input
abbrev pub lines_of : List ℕ → Lines
lines_of text = lines_from 1 (line_pieces text)

-- a splitter: the whole lines that weren't handed out, the number of the line that has begun, what came of it, and the
-- refusal
pub record Split : Type 0 where
  pub waiting : List Line
  pub number : ℕ
  pub rest : List ℕ
  pub fault : Option ReadFault

-- the first lines are the front of the second
pub record IsFront (front lines : List Line) : Type 0 where
  pub rest : List Line
  pub is : lines ≡ front ++ rest

-- nothing after a refusal
abbrev pub unless_fault : Option ReadFault → Lines → Lines
unless_fault None ls = ls
unless_fault (Some f) ls = record { lines = []; fault = Some f }

-- what a splitter gives from now on, where this is the rest of its input
abbrev pub lines_to_come : Split → List ℕ → Lines
lines_to_come s more = after_lines s.waiting (unless_fault s.fault (lines_from s.number (line_pieces (s.rest ++ more))))

-- a newline stands among these bytes
abbrev pub has_newline : List ℕ → Bool
has_newline l = list_any (λ b. b == 10) l

-- the front of a line: no newline ended it, and it is within the limit
pub record IsPartial (l : List ℕ) : Type 0 where
  pub unended : has_newline l ≡ false
  pub within : is_too_long l ≡ false

-- the answer of a splitter that has this refusal, or none
abbrev pub result_of : Option ReadFault → Result (Unit {0}) ReadFault
result_of None = Ok tt
result_of (Some f) = Err f
