use Rattle.std.proofs.Common.{◌≡◌, drop}
use Rattle.std.specs.List.{list_all}
use Rattle.aud_cert.specs.Reading.{is_turn_within}
use Rattle.aud_cert.proofs.within.are_turns_within.Given as goal

abbrev pub invariant-loop-turn : goal.invariant-loop-turn
invariant-loop-turn l = list_all (is_turn_within l.logs) (drop l.turn-index l.turns) ≡ list_all (is_turn_within l.logs) l.turns
