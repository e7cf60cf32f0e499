-- A reader of an input that has refused nothing, and what a piece of the input does to its parts.
use Rattle.std.specs.Prelude.{◌≡◌, ℕ, List, ◌++◌, [], Option, Some, None, option_map, IfSome, Result, Ok, Err, IfErr, OnOk}
use Rattle.aud_reader.specs.declared.line.Line.{Line}
use Rattle.aud_reader.specs.declared.fault.ReadFault.{ReadFault}
use Rattle.aud_reader.specs.declared.fault.ReadFault.TheVariants.{Memory}
use Rattle.aud_reader.specs.Lines.{IsFront, IsPartial, Split, lines_to_come}
use Rattle.aud_input.specs.declared.index.LineIndex.{LineIndex}
use Rattle.aud_input.specs.Reader.{AreAmong, Holds, InputSoFar, PartsSoFar, parts_to_come}
use Rattle.aud_input.specs.TapLines.{noted}
use Rattle.aud_input.specs.Private.Kept.{KeepsPlaces, so_far}

-- no line was refused, and each line that is whole was handed on
pub record AreGoing (cut : Split) (parts : PartsSoFar) : Type 0 where
  pub cuts : cut.fault ≡ None
  pub taken : cut.waiting ≡ []
  pub reads : parts.taps.fault ≡ None

-- a reader, by its parts
abbrev pub reader_of : Split → PartsSoFar → Option LineIndex → Option ReadFault → InputSoFar
reader_of cut parts index fault = record { cut = cut; parts = parts; index = option_map so_far index; fault = fault }

-- what is refused
abbrev pub fault_of : Result (Unit {0}) ReadFault → Option ReadFault
fault_of (Ok x) = None
fault_of (Err fault) = Some fault

-- a splitter takes this piece, of which this is refused
pub record Cuts (old new : Split) (piece : List ℕ) (refused : Option ReadFault) : Type 0 where
  pub fault : new.fault ≡ refused
  pub lines : (more : List ℕ) → lines_to_come new more ≡ lines_to_come old (piece ++ more)
  pub partial : refused ≡ None → IsPartial new.rest
  pub front : (more : List ℕ) → IsFront new.waiting (lines_to_come old (piece ++ more)).lines

-- an index, if there is one, notes these lines
pub record Notes (old new : Option LineIndex) (lines : List Line) : Type 0 where
  pub noted : option_map so_far new ≡ option_map (λ s. noted s lines) (option_map so_far old)
  pub keeps : IfSome new KeepsPlaces

-- the lines that wait are read, or none of them is, and this is the answer
pub record ReadsWaiting (old new : PartsSoFar) (answer : Result (Unit {0}) ReadFault) : Type 0 where
  pub going : OnOk answer (new.taps.fault ≡ None)
  pub parts : OnOk answer ((more : List Line) → parts_to_come new more ≡ parts_to_come old more)
  pub refused : IfErr answer (λ e. ¬ (e ≡ Memory) → (more : List Line) → parts_to_come old more ≡ Err e)
  pub waits : AreAmong new.waiting old.waiting
  pub held : IfErr answer (λ e. ¬ (e ≡ Memory) → Holds e new.waiting)
