use Rattle.std.proofs.Common.{◌≡◌, drop}
use Rattle.aud_causes.specs.Turns.{unbegun}
use Rattle.aud_causes.proofs.turns.unbegun.Given as goal

-- what is to come gives it
abbrev pub invariant-loop-turn : goal.invariant-loop-turn
invariant-loop-turn l = unbegun l.turn (drop l.turn l.begins) ≡ unbegun 0 l.begins
