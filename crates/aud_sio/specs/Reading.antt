-- What a decoder answers.
use Rattle.std.specs.Prelude.{Result}
use Rattle.aud_base.specs.Steps.{GivesUnless}
use Rattle.aud_sio.specs.declared.fault.SioFault.{SioFault}
use Rattle.aud_sio.specs.declared.fault.SioFault.TheVariants.{Memory}

-- what a function returned, seen by view, is what reading gives, unless memory ran out
abbrev pub Gives : {X Y : Type 0} → (X → Y) → Result X SioFault → Result Y SioFault → Type 0
Gives = GivesUnless Memory
