-- What stands after a change that a line brings.
use Rattle.std.specs.Prelude.{◌≡◌, Result, Ok, Err}
use Rattle.aud_reader.specs.declared.fault.InputCode.{InputCode}
use Rattle.aud_reader.specs.declared.fault.LineFault.{LineFault}
use Rattle.aud_reader.specs.Steps.{Fails}

-- what stands after the change is what the reading gives, or the change is refused as the reading is
abbrev pub Becomes : {X : Type 0} → Result (Unit {0}) LineFault → X → Result X InputCode → Type 0
Becomes (Ok done) new reading = reading ≡ Ok new
Becomes (Err e) new reading = Fails e reading
