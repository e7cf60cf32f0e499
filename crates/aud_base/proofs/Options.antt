-- Options.
use Rattle.std.proofs.Common.{◌≡◌, Option, Some, None, refl}
use Rattle.std.specs.Option.{option_or}

-- an option, or else none
pub or_none : {A : Type 0} (o : Option A) → option_or o None ≡ o
or_none None = refl
or_none (Some x) = refl
