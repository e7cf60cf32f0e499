-- Which sessions are shown.
use Rattle.std.specs.Prelude.{ℕ, List, codes, Bool, true, false, Option, Some, None, option_map, if◌then◌else◌}
use Rattle.std.specs.Str.{bytes_eq}
use Rattle.aud_cert.specs.declared.class.Class.{Class}
use Rattle.aud_cert.specs.declared.class.Class.TheVariants.{Delivery, Packets, Recording}
use Rattle.aud_cert.specs.declared.fault.Fault.{Fault}
use Rattle.aud_cert.specs.Class.{class_of, class_text}
use Rattle.aud_cli.specs.declared.only.Only.{Only}
use Rattle.aud_cli.specs.declared.only.Only.TheVariants.{No, Of, With}
use Rattle.aud_cli.specs.Faults.{faults_in, has_fault, is_fault}
use Rattle.aud_cli.specs.Names.{names_in}

-- the class of this name
abbrev pub class_named : List ℕ → Option Class
class_named name =
    if bytes_eq name (codes "delivery") then Some Delivery
    else (if bytes_eq name (codes "packets") then Some Packets
    else (if bytes_eq name (codes "recording") then Some Recording else None))

-- what --only says with this value: no, the word of a fault, or a class
abbrev pub only_named : List ℕ → Option Only
only_named name =
    if bytes_eq name (codes "no") then Some No
    else (if is_fault name then Some (With (faults_in (names_in name))) else option_map Of (class_named name))

-- they are one class
abbrev pub is_same : Class → Class → Bool
is_same shown class = bytes_eq (class_text shown) (class_text class)

-- a session that is answered no with this fault is shown
abbrev pub shows : Only → Fault → Bool
shows No fault = true
shows (Of class) fault = is_same class (class_of fault)
shows (With faults) fault = has_fault faults fault

-- a session that is answered yes, and of which a recovery was refused, is shown: it is of the class delivery
abbrev pub shows_refused : Only → Bool
shows_refused (Of Delivery) = true
shows_refused only = false
