-- What makes status 1.
use Rattle.std.specs.Prelude.{ℕ, List, codes, Bool, true, false, ◌||◌, Option, Some, None, if◌then◌else◌}
use Rattle.std.specs.List.{list_all}
use Rattle.std.specs.Str.{bytes_eq}
use Rattle.aud_cert.specs.declared.class.Class.{Class}
use Rattle.aud_cert.specs.declared.class.Class.TheVariants.{Delivery, Packets, Recording}
use Rattle.aud_cert.specs.declared.fault.Fault.{Fault}
use Rattle.aud_cert.specs.Class.{class_of}
use Rattle.aud_cli.specs.declared.fail_on.FailOn.{FailOn}
use Rattle.aud_cli.specs.Faults.{faults_in, has_fault, is_fault, no_faults}
use Rattle.aud_cli.specs.Names.{has_name, names_in}

-- any fault of this class makes status 1
abbrev pub fails_class : FailOn → Class → Bool
fails_class fail_on Delivery = fail_on.delivery
fails_class fail_on Packets = fail_on.packets
fails_class fail_on Recording = fail_on.recording

-- this fault makes status 1: any fault of its class does, or this one
abbrev pub fails : FailOn → Fault → Bool
fails fail_on fault = fails_class fail_on (class_of fault) || has_fault fail_on.faults fault

-- where the words don't say: any fault, and neither a recovery that was refused, nor that nothing could be judged
abbrev pub every_class : FailOn
every_class = record { delivery = true; packets = true; recording = true; faults = no_faults; refused = false; nothing = false }

-- this is the word of a fault, or names a class, refused recoveries, or that nothing could be judged
abbrev pub is_finding : List ℕ → Bool
is_finding name =
    is_fault name || bytes_eq name (codes "delivery") || bytes_eq name (codes "packets") || bytes_eq name (codes "recording")
    || bytes_eq name (codes "refused") || bytes_eq name (codes "nothing")

-- what --fail-on says with these names
abbrev pub fail_on_of : List (List ℕ) → FailOn
fail_on_of names = record {
  delivery = has_name names (codes "delivery");
  packets = has_name names (codes "packets");
  recording = has_name names (codes "recording");
  faults = faults_in names;
  refused = has_name names (codes "refused");
  nothing = has_name names (codes "nothing");
}

-- what --fail-on says with this list, of which each name is known: what it names makes status 1, and nothing else does
abbrev pub fail_on_named : List ℕ → Option FailOn
fail_on_named list = if list_all is_finding (names_in list) then Some (fail_on_of (names_in list)) else None
