use Rattle.std.proofs.Common.{◌≡◌, max, drop}
use Rattle.aud_session_facts.specs.Opened.{greatest_turn_high}
use Rattle.aud_session_facts.proofs.opened.greatest_high.Given as goal

-- the greatest so far and of those to come is the greatest of all
abbrev pub invariant-loop-turn : goal.invariant-loop-turn
invariant-loop-turn l = max l.high (greatest_turn_high (drop l.turn-index l.turns)) ≡ greatest_turn_high l.turns
