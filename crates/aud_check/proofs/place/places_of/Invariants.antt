use Rattle.std.proofs.Common.{◌≡◌, map, take}
use Rattle.aud_cert.specs.Certificate.{turn_at}
use Rattle.aud_check.proofs.place.places_of.Given as goal

abbrev pub invariant-loop-turn : goal.invariant-loop-turn
invariant-loop-turn l = l.places.items ≡ map (turn_at l.logs) (take l.turn-index l.turns)
