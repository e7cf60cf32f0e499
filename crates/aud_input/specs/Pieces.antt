-- An input that is fed to a reader in pieces.
use Rattle.std.specs.Prelude.{◌≡◌, ℕ, List, [], ◌∷◌, ◌++◌, Result, Ok, Err, IfOk, IfErr, IfSome}
use Rattle.std.specs.List.{flat_map}
use Rattle.aud_reader.specs.declared.fault.ReadFault.{ReadFault}
use Rattle.aud_reader.specs.declared.fault.ReadFault.TheVariants.{Memory}
use Rattle.aud_reader.specs.Lines.{result_of}
use Rattle.aud_input.specs.declared.input.Layout.{Layout}
use Rattle.aud_input.specs.Input.{InputSeen, input_of}
use Rattle.aud_input.specs.Reader.{InputSoFar, input_to_come}

-- a call of `feed`: the piece, the answer, and the reader after it
pub record PieceFed : Type 0 where
  pub piece : List ℕ
  pub answer : Result (Unit {0}) ReadFault
  pub reader : InputSoFar

-- what `feed` says of a call and the reader before it
pub record ReadsPiece (old : InputSoFar) (call : PieceFed) : Type 0 where
  pub value : call.answer ≡ result_of call.reader.fault
  pub input : (more : List ℕ) → ¬ (call.answer ≡ Err Memory) → input_to_come call.reader more ≡ input_to_come old (call.piece ++ more)
  pub refused : IfSome old.fault (λ fault. (call.answer ≡ Err fault) × (call.reader ≡ old))

-- what `finish` says of a reader and the answer
pub record EndsInput (last : InputSoFar) (answer : Result InputSeen ReadFault) : Type 0 where
  pub read : IfOk answer (λ input. input_to_come last [] ≡ Ok input)
  pub refused : IfErr answer (λ e. ¬ (e ≡ Memory) → input_to_come last [] ≡ Err e)
  pub kept : IfSome last.fault (λ fault. answer ≡ Err fault)

-- each piece is fed to the reader that the one before it left
abbrev pub PiecesFollow : InputSoFar → List PieceFed → InputSoFar → Type 0
PiecesFollow old [] last = last ≡ old
PiecesFollow old (call ∷ calls) last = ReadsPiece old call × PiecesFollow call.reader calls last

-- the pieces, joined
abbrev pub bytes_of : List PieceFed → List ℕ
bytes_of calls = flat_map (λ call. call.piece) calls

-- whatever the pieces, a reader that began with none gives in the end what the joined pieces are read as, unless memory
-- ran out
abbrev pub PiecesAreReadAsOne : Type 0
PiecesAreReadAsOne = (layout : Layout) (first last : InputSoFar) (calls : List PieceFed) (answer : Result InputSeen ReadFault)
    → ((bytes : List ℕ) → input_to_come first bytes ≡ input_of layout bytes) → PiecesFollow first calls last → EndsInput last answer → ¬ (answer ≡ Err Memory)
    → input_of layout (bytes_of calls) ≡ answer
