-- Calls of a splitter one after another: pieces are fed, and lines taken, in any order.
use Rattle.std.specs.Prelude.{◌≡◌, ℕ, List, [], ◌∷◌, ◌++◌, Some, None, Result, Ok, Err, IfOk, IfErr, IfSome}
use Rattle.std.specs.List.{flat_map}
use Rattle.aud_reader.specs.declared.line.Line.{Line}
use Rattle.aud_reader.specs.declared.fault.ReadFault.{ReadFault}
use Rattle.aud_reader.specs.declared.fault.ReadFault.TheVariants.{Memory}
use Rattle.aud_reader.specs.Lines.{Split, IsFront, lines_of, lines_to_come, result_of}

-- what `feed` says of a splitter, the piece, the answer, and the splitter after it
pub record FeedsPiece (old : Split) (piece : List ℕ) (result : Result (Unit {0}) ReadFault) (new : Split) : Type 0 where
  pub value : result ≡ result_of new.fault
  pub lines : (more : List ℕ) → ¬ (result ≡ Err Memory) → lines_to_come new more ≡ lines_to_come old (piece ++ more)
  pub refused : IfSome old.fault (λ fault. (result ≡ Err fault) × (new ≡ old))
  pub front : (more : List ℕ) → IsFront new.waiting (lines_to_come old (piece ++ more)).lines

-- what `take` says of a splitter, the lines that it gives, and the splitter after it
pub record Takes (old : Split) (given : List Line) (new : Split) : Type 0 where
  pub lines : given ≡ old.waiting
  pub left : new ≡ record old { waiting = [] }

-- what `finish` says of a splitter and the answer
pub record Finishes (old : Split) (result : Result (List Line) ReadFault) : Type 0 where
  pub ok : IfOk result (λ ls. lines_to_come old [] ≡ record { lines = ls; fault = None })
  pub err : IfErr result (λ e. ¬ (e ≡ Memory) → old.fault ≡ Some e)

-- one call, with what it gives and the splitter after it
pub data SplitterCall : Type 0 where
  Feed : List ℕ → Result (Unit {0}) ReadFault → Split → SplitterCall
  Take : List Line → Split → SplitterCall

-- each call begins with the splitter that the one before it left
abbrev pub SplitterCallsFollow : Split → List SplitterCall → Split → Type 0
SplitterCallsFollow old [] last = last ≡ old
SplitterCallsFollow old (Feed piece result new ∷ calls) last = FeedsPiece old piece result new × SplitterCallsFollow new calls last
SplitterCallsFollow old (Take given new ∷ calls) last = Takes old given new × SplitterCallsFollow new calls last

-- the bytes that a call feeds
abbrev pub bytes_fed : SplitterCall → List ℕ
bytes_fed (Feed piece result new) = piece
bytes_fed (Take given new) = []

-- the lines that a call takes
abbrev pub lines_taken : SplitterCall → List Line
lines_taken (Feed piece result new) = []
lines_taken (Take given new) = given

-- the pieces that were fed, joined
abbrev pub fed : List SplitterCall → List ℕ
fed calls = flat_map bytes_fed calls

-- the lines that were taken, joined
abbrev pub taken : List SplitterCall → List Line
taken calls = flat_map lines_taken calls

-- a splitter at the begin of an input
abbrev pub new_splitter : Split
new_splitter = record { waiting = []; number = 1; rest = []; fault = None }

-- the lines taken, and then those that `finish` gives, are the lines of the joined pieces
abbrev pub TakenAndLastAreLines : Type 0
TakenAndLastAreLines = (calls : List SplitterCall) (last : Split) (ls : List Line) → SplitterCallsFollow new_splitter calls last → Finishes last (Ok ls)
    → lines_of (fed calls) ≡ record { lines = taken calls ++ ls; fault = None }

-- where a line is refused, the lines taken, and then those that wait, are the lines before it; the refusal, which
-- `feed` and `finish` give, is that of the joined pieces, and of all that may follow them
abbrev pub TakenAreLinesBefore : Type 0
TakenAreLinesBefore = (calls : List SplitterCall) (last : Split) (fault : ReadFault) → SplitterCallsFollow new_splitter calls last → last.fault ≡ Some fault → ¬ (fault ≡ Memory)
    → (more : List ℕ) → lines_of (fed calls ++ more) ≡ record { lines = taken calls ++ last.waiting; fault = Some fault }

-- where memory ran out too, the lines taken, and then those that wait, are the front of the lines of the joined pieces,
-- and of all that may follow them
abbrev pub TakenAreFront : Type 0
TakenAreFront = (calls : List SplitterCall) (last : Split) → SplitterCallsFollow new_splitter calls last
    → (more : List ℕ) → IsFront (taken calls ++ last.waiting) (lines_of (fed calls ++ more)).lines
