use Rattle.std.proofs.Common.{◌≡◌, drop}
use Rattle.aud_causes.specs.Turns.{not_tapped}
use Rattle.aud_causes.proofs.turns.not_tapped.Given as goal

-- what is to come gives the cause
abbrev pub invariant-loop-turn : goal.invariant-loop-turn
invariant-loop-turn l = not_tapped l.broken l.turn (drop l.turn l.begins) ≡ not_tapped l.broken 0 l.begins
