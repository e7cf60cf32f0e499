-- The lines before the first that is refused for its front, and that refusal.
use Rattle.std.proofs.Common.{◌≡◌, List, [], ◌∷◌, ◌++◌, cond, Option, Some, None, is_some, refl, sym, ap}
use Rattle.std.proofs.lemmas.Option.{none-some}
use Rattle.aud_reader.specs.declared.fault.InputCode.{InputCode}
use Rattle.aud_reader.specs.declared.fault.ReadFault.{ReadFault}
use Rattle.aud_reader.specs.declared.fault.ReadFault.TheVariants.{Input}
use Rattle.aud_reader.specs.declared.line.Line.{Line}
use Rattle.aud_parts.specs.FileLines.{before_refusal, front_code, front_refusal, refused_or}

-- lines after one that is refused change nothing
pub refusal-after : (lines more : List Line) (fault : ReadFault) → front_refusal lines ≡ Some fault → (before_refusal (lines ++ more) ≡ before_refusal lines) × (front_refusal (lines ++ more) ≡ Some fault)
refusal-after [] more fault e = absurd (none-some fault e)
refusal-after (line ∷ lines) more fault e = go (front_code line) e (refusal-after lines more fault)
  where
    go : (o : Option InputCode) → refused_or line.number o (front_refusal lines) ≡ Some fault
        → (front_refusal lines ≡ Some fault → (before_refusal (lines ++ more) ≡ before_refusal lines) × (front_refusal (lines ++ more) ≡ Some fault))
        → (cond (is_some o) [] (line ∷ before_refusal (lines ++ more)) ≡ cond (is_some o) [] (line ∷ before_refusal lines)) × (refused_or line.number o (front_refusal (lines ++ more)) ≡ Some fault)
    go None is ih = let rest = ih is in (ap (λ ls. line ∷ ls) rest.0, rest.1)
    go (Some code) is ih = (refl, is)

-- where none is refused, those after them decide
pub refusal-none : (lines more : List Line) → front_refusal lines ≡ None → (before_refusal (lines ++ more) ≡ lines ++ before_refusal more) × (front_refusal (lines ++ more) ≡ front_refusal more)
refusal-none [] more e = (refl, refl)
refusal-none (line ∷ lines) more e = go (front_code line) e (refusal-none lines more)
  where
    go : (o : Option InputCode) → refused_or line.number o (front_refusal lines) ≡ None
        → (front_refusal lines ≡ None → (before_refusal (lines ++ more) ≡ lines ++ before_refusal more) × (front_refusal (lines ++ more) ≡ front_refusal more))
        → (cond (is_some o) [] (line ∷ before_refusal (lines ++ more)) ≡ line ∷ lines ++ before_refusal more) × (refused_or line.number o (front_refusal (lines ++ more)) ≡ front_refusal more)
    go None is ih = let rest = ih is in (ap (λ ls. line ∷ ls) rest.0, rest.1)
    go (Some code) is ih = absurd (none-some (Input line.number code) (sym is))

-- all lines are before it
pub before-none : (lines : List Line) → front_refusal lines ≡ None → before_refusal lines ≡ lines
before-none [] e = refl
before-none (line ∷ lines) e = go (front_code line) e (before-none lines)
  where
    go : (o : Option InputCode) → refused_or line.number o (front_refusal lines) ≡ None → (front_refusal lines ≡ None → before_refusal lines ≡ lines)
        → cond (is_some o) [] (line ∷ before_refusal lines) ≡ line ∷ lines
    go None is ih = ap (λ ls. line ∷ ls) (ih is)
    go (Some code) is ih = absurd (none-some (Input line.number code) (sym is))
