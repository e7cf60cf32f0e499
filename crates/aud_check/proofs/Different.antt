-- A difference is a fault: where none holds, there is none.
use Rattle.std.proofs.Common.{arith, ◌≡◌, Option, Some, None, refl}
use Rattle.aud_cert.specs.declared.fault.Fault.{Fault}
use Rattle.aud_check.specs.declared.difference.Difference.{Difference}
use Rattle.aud_check.specs.Difference.{difference}
use Rattle.aud_check.specs.Faults.{Case, HasFault, fault_of, positions_in}

-- a difference is its fault
pub is_fault : (case : Case) (m : Difference) → difference (positions_in case) case.due ≡ Some m → HasFault case (fault_of case.stream m)
is_fault case m e = grind arith

-- where no fault holds of what was received, it begins what was due
pub no_difference : (case : Case) → ((fault : Fault) → HasFault case fault → ⊥) → difference (positions_in case) case.due ≡ None
no_difference case no_fault = go (difference (positions_in case) case.due) refl
  where
    go : (m : Option Difference) → difference (positions_in case) case.due ≡ m → m ≡ None
    go None e = refl
    go (Some m) e = absurd (no_fault (fault_of case.stream m) (is_fault case m e))
