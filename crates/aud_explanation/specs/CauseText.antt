-- The causes.
use Rattle.std.specs.Prelude.{ℕ, Bool, true, false, not, ◌&&◌, List, [], ◌∷◌, ◌++◌, codes, decimal, Some, None}
use Rattle.std.specs.Borrow.{Bor}
use Rattle.std.specs.List.{list_any}
use Rattle.aud_explanation.specs.declared.cause.Cause.{Cause}
use Rattle.aud_explanation.specs.declared.cause.CauseOf.{CauseOf}
use Rattle.aud_explanation.specs.declared.cause.CauseOf.TheVariants.{Fault, Refused}
use Rattle.aud_explanation.specs.declared.cause.CauseState.{CauseState}
use Rattle.aud_explanation.specs.declared.cause.CauseState.TheVariants.{Fits}
use Rattle.aud_explanation.specs.CauseState.{state_word}
use Rattle.aud_explanation.specs.Long.{long_text}
use Rattle.aud_explanation.specs.Page.{laid_line}
use Rattle.aud_explanation.specs.Span.{lines_listed}

-- the lines that say so, where there are any
abbrev pub lines_words : List ℕ → List ℕ
lines_words [] = []
lines_words (n ∷ ns) = codes ", " ++ lines_listed (n ∷ ns)

-- the ask of which it is, of a refused recovery
abbrev pub of_words : CauseOf → List ℕ
of_words Fault = []
of_words (Refused None) = codes ", of the ask"
of_words (Refused (Some line)) = codes ", of the ask on line " ++ decimal line

-- how it stands; where no other cause of the fault is known, and so none was ruled out, that it is the one
abbrev pub stands_words : Bool → CauseOf → CauseState → List ℕ
stands_words true Fault Fits = codes "the one cause known"
stands_words sole of state = state_word state

-- what happened
abbrev pub cause_line : Bool → Cause → List ℕ
cause_line sole c = codes "cause " ++ c.id.now ++ codes " (" ++ stands_words sole c.of c.state ++ lines_words c.lines.now ++ of_words c.of ++ codes "): " ++ c.why.now

-- what to do
abbrev pub todo_line : List ℕ → List ℕ
todo_line todo = codes "do: " ++ todo

-- both, a line each
abbrev pub cause_text : Bool → Cause → List ℕ
cause_text sole c = laid_line (cause_line sole c) ++ laid_line (todo_line c.todo.now)

-- ---- where none holds, and where one alone is known

-- a cause of the fault
abbrev pub is_of_fault : CauseOf → Bool
is_of_fault Fault = true
is_of_fault (Refused line) = false

-- one of these causes is
abbrev pub has_own : List Cause → Bool
has_own causes = list_any (λ (c : Cause). is_of_fault c.of) causes

-- causes of the fault are known: these were refuted, and none of those that hold is of the fault
abbrev pub none_holds : List (Bor (List ℕ)) → List Cause → Bool
none_holds [] causes = false
none_holds (id ∷ refuted) causes = not (has_own causes)

-- a line says so
abbrev pub none_text : Bool → List ℕ
none_text true = codes "no known cause of the fault holds\n"
none_text false = []

-- of the fault one cause alone is known: none was refuted, and of these, among which those of the fault come first, one is
abbrev pub is_sole : List (Bor (List ℕ)) → List Cause → Bool
is_sole [] (c ∷ causes) = is_of_fault c.of && not (has_own causes)
is_sole refuted causes = false

-- those that are shown, and before them that none of the fault holds, where it is so
abbrev pub causes_text : List (Bor (List ℕ)) → List Cause → List ℕ
causes_text refuted causes = none_text (none_holds refuted causes) ++ long_text (cause_text (is_sole refuted causes)) causes
