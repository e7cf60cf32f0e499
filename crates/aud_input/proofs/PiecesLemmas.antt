-- Pieces that are fed to a reader one after another.
use Rattle.std.proofs.Common.{◌≡◌, ℕ, List, [], ◌∷◌, ◌++◌, Option, Some, None, Result, Ok, Err, IfOk, IfErr, IfSome, refl, sym, ap, ◌∙◌, append_assoc, append-nil}
use Rattle.aud_reader.specs.declared.fault.ReadFault.{ReadFault}
use Rattle.aud_reader.specs.declared.fault.ReadFault.TheVariants.{Memory}
use Rattle.aud_reader.proofs.LinesLemmas.{some_of}
use Rattle.aud_input.specs.Input.{InputSeen, input_of}
use Rattle.aud_input.specs.Reader.{InputSoFar, input_to_come}
use Rattle.aud_input.specs.Pieces.{PieceFed, PiecesFollow, bytes_of, PiecesAreReadAsOne}

-- a reader that has refused stays as it is
same-if_some : (s t : InputSoFar) (answer : Result (Unit {0}) ReadFault) (had : Option ReadFault) (fault : ReadFault)
    → IfSome had (λ f. (answer ≡ Err f) × (t ≡ s)) → had ≡ Some fault → t ≡ s
same-if_some s t answer None fault refused e = cc
same-if_some s t answer (Some f) fault refused e = refused.1

-- a refusal stays
refusal_stays : (s last : InputSoFar) (calls : List PieceFed) (fault : ReadFault) → PiecesFollow s calls last → s.fault ≡ Some fault → last.fault ≡ Some fault
refusal_stays s last [] fault follow e = rw follow e
refusal_stays s last (call ∷ calls) fault follow e =
    refusal_stays call.reader last calls fault follow.1 (rw (same-if_some s call.reader call.answer s.fault fault follow.0.refused e) e)

-- what is to come after pieces were fed, unless memory ran out
to_come-follow : (s last : InputSoFar) (calls : List PieceFed) (more : List ℕ) → PiecesFollow s calls last → ¬ (last.fault ≡ Some Memory)
    → input_to_come last more ≡ input_to_come s (bytes_of calls ++ more)
to_come-follow s last [] more follow memory = rw follow refl
to_come-follow s last (call ∷ calls) more follow memory =
    to_come-follow call.reader last calls more follow.1 memory
    ∙ follow.0.input (bytes_of calls ++ more) (λ e. memory (refusal_stays call.reader last calls Memory follow.1 (some_of call.reader.fault Memory (sym e ∙ follow.0.value))))
    ∙ ap (input_to_come s) (sym (append_assoc call.piece (bytes_of calls) more))

-- a refusal that a reader has is its answer
answer-kept : (kept : Option ReadFault) (answer : Result InputSeen ReadFault) (fault : ReadFault) → IfSome kept (λ f. answer ≡ Err f) → kept ≡ Some fault → answer ≡ Err fault
answer-kept None answer fault is e = cc
answer-kept (Some f) answer fault is e = let same : f ≡ fault = cc in is ∙ ap (λ g. Err g) same

-- the answer of a reader that ends, unless memory ran out
pub answer-is : (to_come answer : Result InputSeen ReadFault) → IfOk answer (λ input. to_come ≡ Ok input) → IfErr answer (λ e. ¬ (e ≡ Memory) → to_come ≡ Err e)
    → ¬ (answer ≡ Err Memory) → to_come ≡ answer
answer-is to_come (Ok input) ok err other = ok
answer-is to_come (Err fault) ok err other = err (λ e. other (ap (λ f. Err f) e))

-- pieces are read as the whole input
pub read-as_one : PiecesAreReadAsOne
read-as_one = λ layout first last calls answer begins follow finishes other.
    ap (input_of layout) (sym (append-nil (bytes_of calls)))
    ∙ sym (begins (bytes_of calls ++ []))
    ∙ sym (to_come-follow first last calls [] follow (λ e. other (answer-kept last.fault answer Memory finishes.kept e)))
    ∙ answer-is (input_to_come last []) answer finishes.read finishes.refused other
