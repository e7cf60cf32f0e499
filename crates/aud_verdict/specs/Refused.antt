-- Which fault a refused certificate shows.
use Rattle.std.specs.Prelude.{Option, Some, None, IsSome}
use Rattle.aud_cert.specs.declared.fault.Fault.{Fault}
use Rattle.aud_cert.specs.declared.fault.Fault.TheVariants as fault
use Rattle.aud_check.specs.declared.refusal.Refusal.{Refusal}
use Rattle.aud_check.specs.declared.refusal.Refusal.TheVariants.{Names, Received, Memory}

-- the fault of the session whose certificate is refused so; none where the certificate itself is wrong, in a turn, a
-- cursor or a span
abbrev pub fault_found : Refusal → Option Fault
fault_found Names = Some fault.Names
fault_found (Received fault) = Some fault
fault_found _ = None

-- what the certificate of all turns can be refused for: a fault of the session, or running out of memory
abbrev pub IsOfSession : Refusal → Type 0
IsOfSession Memory = Unit {0}
IsOfSession refusal = IsSome (fault_found refusal)
