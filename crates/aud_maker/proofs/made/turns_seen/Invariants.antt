use Rattle.std.proofs.Common.{◌≡◌, map, take}
use Rattle.aud_maker.specs.Made.{turn_seen}
use Rattle.aud_maker.proofs.made.turns_seen.Given as goal

abbrev pub invariant-loop-turn : goal.invariant-loop-turn
invariant-loop-turn l = l.seen.items ≡ map (turn_seen l.logs) (take l.turn-index l.turns)
