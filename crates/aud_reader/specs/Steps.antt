-- What a function answers for a reading, which may refuse the line.
use Rattle.std.specs.Prelude.{◌≡◌, ℕ, Result, Ok, Err}
use Rattle.aud_reader.specs.declared.fault.InputCode.{InputCode}
use Rattle.aud_reader.specs.declared.fault.LineFault.{LineFault}
use Rattle.aud_reader.specs.declared.fault.LineFault.TheVariants as line
use Rattle.aud_reader.specs.declared.fault.ReadFault.{ReadFault}
use Rattle.aud_reader.specs.declared.fault.ReadFault.TheVariants as read

-- the reading is refused for this reason; running out of memory says nothing of it
abbrev pub Fails : {X : Type 0} → LineFault → Result X InputCode → Type 0
Fails line.Memory reading = Unit {0}
Fails (line.Code code) reading = reading ≡ Err code

-- what a function returned is what the reading gives, unless memory ran out
abbrev pub Gives : {X : Type 0} → Result X LineFault → Result X InputCode → Type 0
Gives (Ok x) reading = reading ≡ Ok x
Gives (Err e) reading = Fails e reading

-- the reading of the line of this number is refused so; running out of memory says nothing of it
abbrev pub IsRefusal : {X : Type 0} → ℕ → ReadFault → Result X InputCode → Type 0
IsRefusal number read.Memory reading = Unit {0}
IsRefusal number (read.Input n code) reading = (n ≡ number) × (reading ≡ Err code)
