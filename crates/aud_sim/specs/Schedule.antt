-- What a schedule gives: the text of a bundle, or the number of the first act that isn't possible.
use Rattle.std.specs.Prelude.{◌≡◌, ℕ, suc, ◌&&◌, List, [], ◌∷◌, Bool, Result, Ok, Err, if◌then◌else◌}
use Rattle.std.specs.declared.vec.Vec.{Vec}
use Rattle.std.specs.declared.alloc.Global.{Global}
use Rattle.aud_sim.specs.declared.act.Act.{Act}
use Rattle.aud_sim.specs.declared.fault.SimFault.{SimFault}
use Rattle.aud_sim.specs.declared.fault.SimFault.TheVariants as fault
use Rattle.aud_sim.specs.Acts.{after}
use Rattle.aud_sim.specs.Cluster.{State, first_state}
use Rattle.aud_sim.specs.Possible.{can}

-- the act is possible: the state allows it, and each line that it writes can be a bundle's
abbrev pub possible : Act → State → Bool
possible act s = can act s && (after act s).lines.is_whole

-- the text after the acts, of which the first has this number; or the number of the first that isn't possible
abbrev pub scheduled : ℕ → List Act → State → Result (List ℕ) ℕ
scheduled number [] s = Ok s.lines.text
scheduled number (act ∷ acts) s = if possible act s then scheduled (suc number) acts (after act s) else Err number

-- the text that a cluster of so many nodes and clients writes while it runs the acts, or the first act that isn't
-- possible, from 0
abbrev pub simulated : ℕ → ℕ → List Act → Result (List ℕ) ℕ
simulated nodes clients acts = scheduled 0 acts (first_state nodes clients)

-- what was answered is what the schedule gives, unless memory ran out
abbrev pub Simulates : Result (Vec ℕ Global) SimFault → Result (List ℕ) ℕ → Type 0
Simulates (Ok text) schedule = schedule ≡ Ok text.items
Simulates (Err (fault.Act number)) schedule = schedule ≡ Err number
Simulates (Err fault.Memory) schedule = Unit {0}
