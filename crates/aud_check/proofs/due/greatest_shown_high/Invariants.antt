use Rattle.std.proofs.Common.{◌≡◌, max, drop}
use Rattle.aud_check.specs.Private.ShownBounds.{greatest_shown_high}
use Rattle.aud_check.proofs.due.greatest_shown_high.Given as goal

abbrev pub invariant-loop-turn : goal.invariant-loop-turn
invariant-loop-turn l = max l.high (greatest_shown_high (drop l.turn-index l.turns)) ≡ greatest_shown_high l.turns
