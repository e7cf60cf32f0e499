-- Reading in steps, each of which may refuse the certificate, and what a function answers for it.
use Rattle.std.specs.Prelude.{List, [], ◌∷◌, Result, Ok}
pub use Rattle.aud_base.specs.Steps.{◌>>=◌, need, guard}
use Rattle.aud_base.specs.Steps.{GivesUnless}
use Rattle.aud_cert.specs.declared.text_fault.CertFault.{CertFault}
use Rattle.aud_cert.specs.declared.text_fault.CertFault.TheVariants.{Memory}

-- the step for each of the elements; the first refusal stands
abbrev pub each : {A B : Type 0} → (A → Result B CertFault) → List A → Result (List B) CertFault
each step [] = Ok []
each step (x ∷ xs) = step x >>= (λ y. each step xs >>= (λ ys. Ok (y ∷ ys)))

-- what a function returned, seen by view, is what the reading gives, unless memory ran out
abbrev pub Gives : {X Y : Type 0} → (X → Y) → Result X CertFault → Result Y CertFault → Type 0
Gives = GivesUnless Memory
