-- What a splitter is after a part of its input.
use Rattle.std.specs.Prelude.{ℕ, ◌+◌, List, [], ◌∷◌, ◌++◌, if◌then◌else◌, Some, None, Result, Ok, Err}
use Rattle.aud_reader.specs.declared.line.Line.{Line}
use Rattle.aud_reader.specs.declared.fault.ReadFault.{ReadFault}
use Rattle.aud_reader.specs.declared.fault.ReadFault.TheVariants.{Input}
use Rattle.aud_reader.specs.declared.fault.InputCode.TheVariants.{LineTooLong}
use Rattle.aud_reader.specs.Lines.{is_too_long, line_at, Split}

-- the lines with one more, unless it is refused
abbrev pub lines_with : List Line → Result Line ReadFault → List Line
lines_with lines (Ok line) = lines ++ line ∷ []
lines_with lines (Err f) = lines

-- the answer to one more line
abbrev pub answer_of : Result Line ReadFault → Result (Unit {0}) ReadFault
answer_of (Ok line) = Ok tt
answer_of (Err f) = Err f

-- a splitter at the start of a line
abbrev pub at_line : List Line → ℕ → Split
at_line lines number = record { waiting = lines; number = number; rest = []; fault = None }

-- a splitter after a line, or its refusal
abbrev pub splitter_with_line : Split → Result Line ReadFault → Split
splitter_with_line s (Ok line) = record { waiting = s.waiting ++ line ∷ []; number = s.number + 1; rest = []; fault = None }
splitter_with_line s (Err f) = record { waiting = s.waiting; number = s.number; rest = []; fault = Some f }

-- a splitter after these bytes and a newline
abbrev pub line_ended : Split → List ℕ → Split
line_ended s front = splitter_with_line s (line_at s.number (s.rest ++ front))

-- a splitter after these bytes, in which no newline stands
abbrev pub line_begun : Split → List ℕ → Split
line_begun s front = record s { rest = s.rest ++ front; fault = if is_too_long (s.rest ++ front) then Some (Input s.number LineTooLong) else None }
