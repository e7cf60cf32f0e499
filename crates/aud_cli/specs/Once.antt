-- Options that may stand once.
use Rattle.std.specs.Prelude.{Bool, true, Option, Some, None, is_some, if◌then◌else◌}

-- what an option says, where that is understood and nothing was said before
abbrev pub once : {A : Type 0} → Option A → Option A → Option A
once before said = if is_some before then None else said

-- an option without a value, where it didn't stand before
abbrev pub switched_on : Bool → Option Bool
switched_on before = if before then None else Some true
