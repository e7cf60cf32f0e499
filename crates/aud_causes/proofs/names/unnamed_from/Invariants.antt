use Rattle.std.proofs.Common.{◌≡◌, drop}
use Rattle.aud_causes.specs.Names.{unnamed_from}
use Rattle.aud_causes.proofs.names.unnamed_from.Given as goal

-- the taps to come give it
abbrev pub invariant-loop-place : goal.invariant-loop-place
invariant-loop-place l = unnamed_from l.recording l.place (drop l.place l.taps) ≡ unnamed_from l.recording 0 l.taps
