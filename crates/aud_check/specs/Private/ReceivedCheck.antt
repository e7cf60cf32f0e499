-- What the check of a received list answers.
use Rattle.aud_check.specs.declared.refusal.Refusal.{Refusal}
use Rattle.aud_check.specs.declared.refusal.Refusal.TheVariants.{Received, Memory}
use Rattle.aud_check.specs.Faults.{Case, IsFirstFault}

-- the refusal names the first fault, unless memory ran out
abbrev pub IsReceivedRefusal : Case → Refusal → Type 0
IsReceivedRefusal case (Received fault) = IsFirstFault case fault
IsReceivedRefusal case Memory = Unit {0}
IsReceivedRefusal case _ = ⊥
