-- What a run of `explain` writes.
use Rattle.std.specs.Prelude.{◌≡◌, ℕ, List, Option}
use Rattle.std.specs.Io.KnownBytes.{Appends}
use Rattle.aud_base.specs.Written.{AppendsFront}
use Rattle.aud_explain_app.specs.declared.ending.Ending.{Ending}
use Rattle.aud_explain_app.specs.declared.output.Told.{Told}

-- the run ends as is told, and with the pids that are left out
pub record EndsAs (told : Told) (ending : Ending) : Type 0 where
  pub status_is : ending.status ≡ told.output.status
  pub left_out_are : ending.left_out ≡ told.left_out

-- the whole text of such an output was written, and the run ends as the output does
abbrev pub Writes : Option (List ℕ) → Option (List ℕ) → (Told → Type 0) → Ending → Type 0
Writes old new Is ending = (told : Told) × Is told × EndsAs told ending × Appends old new told.output.text

-- a front of the text of such an output was written
abbrev pub WritesFront : Option (List ℕ) → Option (List ℕ) → (Told → Type 0) → Type 0
WritesFront old new Is = (told : Told) × Is told × AppendsFront old new told.output.text
