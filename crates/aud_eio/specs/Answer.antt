-- What a decoder answers.
use Rattle.std.specs.Prelude.{◌≡◌, Result, Ok, Err}
use Rattle.aud_eio.specs.declared.packet.EioFault.{EioFault}
use Rattle.aud_eio.specs.declared.packet.EioFault.TheVariants.{Memory}

-- what a function returned, as plain data, is what decoding gives, unless memory ran out
abbrev pub Gives : {X Y : Type 0} → (X → Y) → Result X EioFault → Result Y EioFault → Type 0
Gives view (Ok x) read = read ≡ Ok (view x)
Gives view (Err fault) read = ¬ (fault ≡ Memory) → read ≡ Err fault
